use Rattle.std.proofs.Common.{rules, ◌≡◌, ◌++◌, ◌∷◌, [], All, subst, sym}
use Rattle.std.proofs.lemmas.List.Elements.{All-push}
use Rattle.std.specs.Option.{option_to_list}
use Rattle.worker_hall.proofs.ShiftLemmas.{hired}
use Rattle.guard_serving.proofs.hiring.hire_at_door.Goals as goal

pub loop-kit-preserved : goal.loop-kit-preserved
loop-kit-preserved g c =
    let loop = c.loop-kit in
    let guard = c.new.result in
    let popped : loop.kits.items ≡ c.pop.new.self.items ++ c.in-Some.kit ∷ [] =
    subst (λ r. loop.kits.items ≡ c.pop.new.self.items ++ option_to_list r) c.in-Some.is c.pop.ensures.items in
    let pushed : c.push.new.self.items ≡ loop.guards.items ++ guard ∷ [] = c.in-Ok.ensures.items in (
      subst (λ l. All (λ x. x.door.now ≡ c.args.door.now) l) (sym pushed)
          (All-push (λ x. x.door.now ≡ c.args.door.now) _ _ loop.invariant.0 c.new.ensures.stand),
      hired (λ x. x.kit) c.args.kits.now.items loop.kits.items c.pop.new.self.items c.in-Some.kit loop.guards.items c.push.new.self.items guard
          loop.invariant.1 popped c.new.ensures.kit pushed,
      search rules,
      search rules,
      search rules,
    )
