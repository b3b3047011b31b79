use Rattle.std.proofs.Common.{◌∙◌}
use Rattle.hub_rows.specs.declared.records.Token.{Token}
use Rattle.hub_tables.specs.Kept.{Tokens}
use Rattle.hub_tables.proofs.Kept.{found}
use Rattle.hub_tables.proofs.tables.Tables.token.Goals as goal

pub returns-clause-own : goal.returns-clause-own
returns-clause-own c = found (λ (row : Token). row.id) c.args.id c.row_in.result _ (c.row_in.ensures ∙ c.row_at.ensures) ((c.self.invariant Tokens).own c.args.id)
