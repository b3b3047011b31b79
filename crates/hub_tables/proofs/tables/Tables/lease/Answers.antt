use Rattle.hub_rows.specs.declared.records.Lease.{Lease}
use Rattle.hub_tables.specs.Kept.{Leases}
use Rattle.hub_tables.proofs.Kept.{found}
use Rattle.hub_tables.proofs.tables.Tables.lease.Goals as goal

pub returns-clause-own : goal.returns-clause-own
returns-clause-own c = found (λ (row : Lease). row.target) c.args.key.now c.row_at.result _ c.row_at.ensures (c.self.invariant Leases c.args.key.now)
