use Rattle.hub_rows.specs.declared.records.Group.{Group}
use Rattle.hub_tables.specs.Kept.{Groups}
use Rattle.hub_tables.proofs.Kept.{found}
use Rattle.hub_tables.proofs.tables.Tables.group.Goals as goal

pub returns-clause-own : goal.returns-clause-own
returns-clause-own c = found (λ (row : Group). row.name) c.args.key.now c.row_at.result _ c.row_at.ensures ((c.self.invariant Groups).own c.args.key.now)
