use Rattle.hub_rows.specs.declared.records.Role.{Role}
use Rattle.hub_tables.specs.Kept.{Roles}
use Rattle.hub_tables.proofs.Kept.{found}
use Rattle.hub_tables.proofs.tables.Tables.role.Goals as goal

pub returns-clause-own : goal.returns-clause-own
returns-clause-own c = found (λ (row : Role). row.name) c.args.key.now c.row_at.result _ c.row_at.ensures ((c.self.invariant Roles).own c.args.key.now)
