use Rattle.hub_rows.specs.declared.records.ServerRow.{ServerRow}
use Rattle.hub_tables.specs.Kept.{Servers}
use Rattle.hub_tables.proofs.Kept.{found}
use Rattle.hub_tables.proofs.tables.Tables.server.Goals as goal

pub returns-clause-own : goal.returns-clause-own
returns-clause-own c = found (λ (row : ServerRow). row.key) c.args.key.now c.row_at.result _ c.row_at.ensures (c.self.invariant Servers c.args.key.now)
