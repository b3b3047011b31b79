use Rattle.hub_rows.specs.declared.records.ShareCode.{ShareCode}
use Rattle.hub_tables.specs.Kept.{Codes}
use Rattle.hub_tables.proofs.Kept.{found}
use Rattle.hub_tables.proofs.tables.Tables.code.Goals as goal

pub returns-clause-own : goal.returns-clause-own
returns-clause-own c = found (λ (row : ShareCode). row.id) c.args.id c.row_at.result _ c.row_at.ensures ((c.self.invariant Codes).own c.args.id)
