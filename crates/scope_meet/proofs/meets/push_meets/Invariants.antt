use Rattle.std.proofs.Common.{◌&&◌, take}
use Rattle.scope_filters.specs.Admits.{admits}
use Rattle.scope_meet.proofs.Pairs.{Grown}
use Rattle.scope_meet.proofs.meets.push_meets.Given as goal

abbrev pub invariant-loop-g : goal.invariant-loop-g
invariant-loop-g g l =
    let m = g.M.Members.context l.members in
    Grown l.action m (λ x k. admits l.action m l.f x && admits l.action m k x) l.fn.met.items (take l.g-index l.others) l.met.items
