use Rattle.std.proofs.Common.{◌≡◌, ◌++◌, drop}
use Rattle.scope_meet.proofs.GroupLists.{users_among}
use Rattle.scope_meet.proofs.groups.push_users.Given as goal

abbrev pub invariant-loop-user : goal.invariant-loop-user
invariant-loop-user l = l.met.items ++ users_among l.users (drop l.user-index l.members) ≡ l.fn.met.items ++ users_among l.users l.members
