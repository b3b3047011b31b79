use Rattle.std.proofs.Common.{◌≡◌, ◌++◌, drop}
use Rattle.std.specs.List.{flat_map}
use Rattle.scope_meet.proofs.groups.members_of.Given as goal

abbrev pub invariant-loop-group : goal.invariant-loop-group
invariant-loop-group g l = let context = g.M.Members.context l.members in l.users.items ++ flat_map context (drop l.group-index l.groups) ≡ flat_map context l.groups
