use Rattle.std.proofs.Common.{◌≡◌, take, map}
use Rattle.admin_rules.specs.Users.{new_user}
use Rattle.admin_rules.proofs.users.new_users.Given as goal

abbrev pub invariant-loop-name : goal.invariant-loop-name
invariant-loop-name l = l.users.items ≡ map (new_user l.admin l.now) (take l.name-index l.names)
