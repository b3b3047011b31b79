use Rattle.std.proofs.Common.{◌≡◌, take}
use Rattle.admin_rules.specs.Users.{unkept_users}
use Rattle.admin_rules.proofs.users.unkept_users.Given as goal

abbrev pub invariant-loop-name : goal.invariant-loop-name
invariant-loop-name l = l.new.items ≡ unkept_users l.tables (take l.name-index l.names)
