use Rattle.std.proofs.Common.{rules, ◌≡◌, ◌++◌, ◌∷◌, [], subst, sym, ap, ◌∙◌}
use Rattle.std.specs.Option.{option_to_list}
use Rattle.worker_hall.proofs.ShiftLemmas.{all_back, given_back}
use Rattle.worker_hall.proofs.hired.dismiss.Goals as goal

pub loop-server-preserved : goal.loop-server-preserved
loop-server-preserved g c =
    let loop = c.loop-server in
    let server = c.in-Some.server in
    let popped : loop.servers.items ≡ c.pop.new.self.items ++ server ∷ [] =
    subst (λ r. loop.servers.items ≡ c.pop.new.self.items ++ option_to_list r) c.in-Some.is c.pop.ensures.items in
    let pushed : c.push.new.self.items ≡ loop.kits.items ++ c.into_kit.result ∷ [] = search rules in (
      given_back (λ x. g.S.Hired.kit_of x) _ loop.kits.items c.push.new.self.items loop.servers.items c.pop.new.self.items server loop.invariant.0 popped
          (pushed ∙ ap (λ k. loop.kits.items ++ k ∷ []) c.into_kit.ensures),
      search rules,
    )

pub returns : goal.returns
returns g c =
    let none : c.loop-server.servers.items ≡ [] = search rules in
    record { back = sym (all_back (λ x. g.S.Hired.kit_of x) _ c.loop-server.kits.items c.loop-server.servers.items c.loop-server.invariant.0 none) }
