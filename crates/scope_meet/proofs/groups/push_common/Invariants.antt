use Rattle.std.proofs.Common.{◌≡◌, ℕ, List, ◌++◌, drop}
use Rattle.std.specs.List.{flat_map}
use Rattle.scope_meet.proofs.GroupLists.{users_among}
use Rattle.scope_meet.proofs.groups.push_common.Given as goal

abbrev pub invariant-loop-group : goal.invariant-loop-group
invariant-loop-group g l =
    let found = λ (n : List ℕ). users_among l.users (g.M.Members.context l.members n) in l.met.items ++ flat_map found (drop l.group-index l.groups) ≡ l.fn.met.items ++ flat_map found l.groups
