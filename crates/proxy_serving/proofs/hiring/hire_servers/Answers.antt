use Rattle.std.proofs.Common.{rules, ◌≡◌, ◌++◌, ◌∷◌, [], All, subst, sym, ap, ◌∙◌}
use Rattle.std.proofs.lemmas.List.Elements.{All-push}
use Rattle.std.specs.Option.{option_to_list}
use Rattle.worker_hall.proofs.ShiftLemmas.{hired}
use Rattle.proxy_serving.specs.Workers.{split_from}
use Rattle.proxy_serving.proofs.hiring.hire_servers.Goals as goal

pub loop-clock-preserved : goal.loop-clock-preserved
loop-clock-preserved g c =
    let loop = c.loop-clock in
    let server = c.new.result in
    let popped : loop.clocks.items ≡ c.pop.new.self.items ++ c.in-Some.clock ∷ [] =
    subst (λ r. loop.clocks.items ≡ c.pop.new.self.items ++ option_to_list r) c.in-Some.is c.pop.ensures.items in
    let pushed : c.push.new.self.items ≡ loop.servers.items ++ server ∷ [] = c.in-Ok.ensures.items in
    let split : c.unwrap-own.result ≡ split_from loop.pass = search rules in
    let begins : (server.routes.pass ≡ split_from c.args.pass.now) × (server.secret.now ≡ c.args.secret.now) =
    (ap (λ r. r.pass) c.new.ensures.routes ∙ split ∙ loop.invariant.2, c.new.ensures.secret) in (
      search rules,
      search rules,
      ap split_from c.split.ensures.kept ∙ loop.invariant.2,
      subst (λ l. All (λ s. (s.routes.pass ≡ split_from c.args.pass.now) × (s.secret.now ≡ c.args.secret.now)) l) (sym pushed)
          (All-push (λ s. (s.routes.pass ≡ split_from c.args.pass.now) × (s.secret.now ≡ c.args.secret.now)) _ _ loop.invariant.3 begins),
      hired (λ s. s.clock) c.args.clocks.now.items loop.clocks.items c.pop.new.self.items c.in-Some.clock loop.servers.items c.push.new.self.items server
          loop.invariant.4 popped c.new.ensures.clock pushed,
      search rules,
      search rules,
      search rules,
    )
