use Rattle.std.proofs.Common.{◌≡◌, drop}
use Rattle.admin_rules.specs.Rules.{first_unkept}
use Rattle.admin_rules.proofs.groups.unkept_user.Given as goal

abbrev pub invariant-loop-user : goal.invariant-loop-user
invariant-loop-user l = first_unkept l.tables.users (drop l.user-index l.users) ≡ first_unkept l.tables.users l.users
