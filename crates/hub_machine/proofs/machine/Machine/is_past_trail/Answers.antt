use Rattle.std.proofs.Common.{◌≡◌, ap, subst, arith}
use Rattle.hub_machine.specs.State.{Hub, IsBounded}
use Rattle.hub_machine.proofs.Owing.{few_after}
use Rattle.hub_machine.proofs.machine.Machine.is_past_trail.Goals as goal

pub overflow_add-result-then-self : goal.overflow_add-result-then-self
overflow_add-result-then-self c =
    let few = few_after c.args.change.now c.args.self.now in
    let bounded = subst IsBounded c.self.view_is c.self.invariant.0 in
    let length : c.self.inside.length ≡ c.args.self.now.length = ap (λ (h : Hub). h.length) c.self.view_is in
    let owes = c.owed_after-owed.ensures in
    let short = bounded.length in
    omega (arith, few, length, owes, short)

pub overflow_mul-after : goal.overflow_mul-after
overflow_mul-after c =
    let few = few_after c.args.change.now c.args.self.now in
    let bounded = subst IsBounded c.self.view_is c.self.invariant.0 in
    let length : c.self.inside.length ≡ c.args.self.now.length = ap (λ (h : Hub). h.length) c.self.view_is in
    let owes = c.owed_after-owed.ensures in
    let short = bounded.length in
    omega (arith, few, length, owes, short)

pub overflow_add-after-3 : goal.overflow_add-after-3
overflow_add-after-3 c =
    let few = few_after c.args.change.now c.args.self.now in
    let bounded = subst IsBounded c.self.view_is c.self.invariant.0 in
    let length : c.self.inside.length ≡ c.args.self.now.length = ap (λ (h : Hub). h.length) c.self.view_is in
    let owes = c.owed_after-owed.ensures in
    let short = bounded.length in
    let within = c.self.invariant.0.within c.if-self.false in
    let limit = c.self.invariant.0.limit in
    omega (arith, few, length, owes, short, within, limit)
