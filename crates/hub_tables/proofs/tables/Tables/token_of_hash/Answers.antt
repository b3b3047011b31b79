use Rattle.std.proofs.Common.{◌∙◌, ap}
use Rattle.hub_rows.specs.declared.records.Token.{Token}
use Rattle.hub_tables.specs.Kept.{Tokens}
use Rattle.hub_tables.specs.Hashes.{row_with}
use Rattle.hub_tables.specs.State.{State}
use Rattle.hub_tables.proofs.tables.Tables.token_of_hash.Goals as goal

pub row_of_hash-requires : goal.row_of_hash-requires
row_of_hash-requires c = record { ordered = (c.self.invariant Tokens).ordered; indexed = (c.self.invariant Tokens).indexed }

pub returns : goal.returns
returns c = c.row_in.ensures ∙ c.row_of_hash.ensures ∙ ap (λ (s : State). row_with (λ (row : Token). row.hash) c.args.hash.now s.tokens) c.self.view_is
