use Rattle.std.proofs.Common.{◌≡◌, ◌++◌, map, drop}
use Rattle.scope_filters.specs.declared.filter.Filter.TheVariants as Fi
use Rattle.scope_meet.proofs.GroupLists.{shared}
use Rattle.scope_meet.proofs.groups.shared.Given as goal

abbrev pub invariant-loop-group : goal.invariant-loop-group
invariant-loop-group l = l.met.items ++ map Fi.Group (shared (drop l.group-index l.ours) l.theirs) ≡ map Fi.Group (shared l.ours l.theirs)
