use Rattle.std.proofs.Common.{◌&&◌, take}
use Rattle.scope_filters.specs.Admits.{admits, any_admits}
use Rattle.scope_meet.proofs.Pairs.{Grown}
use Rattle.scope_meet.proofs.meets.push_each.Given as goal

abbrev pub invariant-loop-f : goal.invariant-loop-f
invariant-loop-f g l =
    let m = g.M.Members.context l.members in
    Grown l.action m (λ x f. admits l.action m f x && any_admits l.action m l.others x) l.fn.met.items (take l.f-index l.filters) l.met.items
