use Rattle.std.proofs.Common.{◌≡◌, ◌++◌, drop}
use Rattle.scope_meet.proofs.GroupLists.{apart}
use Rattle.scope_meet.proofs.groups.apart.Given as goal

abbrev pub invariant-loop-group : goal.invariant-loop-group
invariant-loop-group l = l.own.items ++ apart (drop l.group-index l.ours) l.theirs ≡ apart l.ours l.theirs
