use Rattle.std.proofs.Common.{◌∙◌, ap}
use Rattle.hub_rows.specs.declared.records.ShareCode.{ShareCode}
use Rattle.hub_tables.specs.Kept.{Codes}
use Rattle.hub_tables.specs.Hashes.{row_with}
use Rattle.hub_tables.specs.State.{State}
use Rattle.hub_tables.proofs.tables.Tables.code_of_hash.Goals as goal

pub row_of_hash-requires : goal.row_of_hash-requires
row_of_hash-requires c = record { ordered = (c.self.invariant Codes).ordered; indexed = (c.self.invariant Codes).indexed }

pub returns : goal.returns
returns c = c.row_of_hash.ensures ∙ ap (λ (s : State). row_with (λ (row : ShareCode). row.hash) c.args.hash.now s.codes) c.self.view_is
