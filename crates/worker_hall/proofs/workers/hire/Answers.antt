use Rattle.std.proofs.Common.{rules, ◌≡◌, ◌++◌, ◌∷◌, [], All, subst, sym, ◌∙◌}
use Rattle.std.proofs.lemmas.List.Elements.{All-push}
use Rattle.std.specs.Option.{option_to_list}
use Rattle.worker_hall.proofs.ShiftLemmas.{hired}
use Rattle.worker_hall.proofs.workers.hire.Goals as goal

pub loop-server-preserved : goal.loop-server-preserved
loop-server-preserved g c =
    let loop = c.loop-server in
    let worker = c.new.result in
    let popped : loop.servers.items ≡ c.pop.new.self.items ++ c.in-Some.server ∷ [] =
    subst (λ r. loop.servers.items ≡ c.pop.new.self.items ++ option_to_list r) c.in-Some.is c.pop.ensures.items in
    let pushed : c.push.new.self.items ≡ loop.workers.items ++ worker ∷ [] = c.in-Ok.ensures.items in
    let idle : (worker.tally ≡ 0) × (worker.server ≡ worker.lent.value) = (c.new.ensures.idle.0, c.new.ensures.idle.1 ∙ sym c.new.ensures.idle.2) in (
      subst (λ l. All (λ w. (w.tally ≡ 0) × (w.server ≡ w.lent.value)) l) (sym pushed)
          (All-push (λ w. (w.tally ≡ 0) × (w.server ≡ w.lent.value)) _ _ loop.invariant.0 idle),
      hired (λ w. w.lent.value) c.args.servers.now.items loop.servers.items c.pop.new.self.items c.in-Some.server loop.workers.items c.push.new.self.items worker
          loop.invariant.1 popped c.new.ensures.idle.2 pushed,
      search rules,
      search rules,
      search rules,
      search rules,
      search rules,
    )
