use Rattle.hub_rows.specs.declared.records.User.{User}
use Rattle.hub_tables.specs.Kept.{Users}
use Rattle.hub_tables.proofs.Kept.{found}
use Rattle.hub_tables.proofs.tables.Tables.user.Goals as goal

pub returns-clause-own : goal.returns-clause-own
returns-clause-own c = found (λ (row : User). row.name) c.args.key.now c.row_at.result _ c.row_at.ensures (c.self.invariant Users c.args.key.now)
