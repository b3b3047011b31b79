use Rattle.hub_rows.specs.declared.records.Next.{Next}
use Rattle.hub_tables.specs.Kept.{Nexts}
use Rattle.hub_tables.proofs.Kept.{found}
use Rattle.hub_tables.proofs.tables.Tables.next_of.Goals as goal

pub returns-clause-own : goal.returns-clause-own
returns-clause-own c = found (λ (row : Next). row.name) c.args.key.now c.row_at.result _ c.row_at.ensures (c.self.invariant Nexts c.args.key.now)
