use Rattle.std.proofs.Common.{◌≡◌, ◌≤◌, drop, length}
use Rattle.row_rules.specs.Judged.{users_back}
use Rattle.row_rules.proofs.put.put_users.Given as goal

abbrev pub invariant-users : goal.invariant-users
invariant-users l = (l.left ≤ length l.rows) × (l.tables ≡ record l.fn.tables { users = users_back (drop l.left l.rows) l.fn.tables.users })

abbrev pub decreases-users : goal.decreases-users
decreases-users l = l.left
