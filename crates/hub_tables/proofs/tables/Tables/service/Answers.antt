use Rattle.hub_rows.specs.declared.records.Service.{Service}
use Rattle.hub_tables.specs.Kept.{Services}
use Rattle.hub_tables.proofs.Kept.{found}
use Rattle.hub_tables.proofs.tables.Tables.service.Goals as goal

pub returns-clause-own : goal.returns-clause-own
returns-clause-own c = found (λ (row : Service). row.name) c.args.key.now c.row_at.result _ c.row_at.ensures (c.self.invariant Services c.args.key.now)
