use Rattle.std.proofs.Common.{rules, ◌≡◌, ◌++◌, ◌∷◌, [], All, subst, sym, ap, ◌∙◌}
use Rattle.std.proofs.lemmas.List.Elements.{All-push}
use Rattle.std.specs.Option.{option_to_list}
use Rattle.worker_hall.proofs.ShiftLemmas.{hired}
use Rattle.proxy_serving.specs.Workers.{split_from}
use Rattle.proxy_serving.proofs.hiring.hire_forwarders.Goals as goal

pub loop-kit-preserved : goal.loop-kit-preserved
loop-kit-preserved g c =
    let loop = c.loop-kit in
    let forwarder = c.new.result in
    let popped : loop.kits.items ≡ c.pop.new.self.items ++ c.in-Some.kit ∷ [] =
    subst (λ r. loop.kits.items ≡ c.pop.new.self.items ++ option_to_list r) c.in-Some.is c.pop.ensures.items in
    let pushed : c.push.new.self.items ≡ loop.forwarders.items ++ forwarder ∷ [] = c.in-Ok.ensures.items in
    let split : c.unwrap-own.result ≡ split_from loop.pass = search rules in
    let begins : forwarder.routes.pass ≡ split_from c.args.pass.now = ap (λ r. r.pass) c.new.ensures.routes ∙ split ∙ loop.invariant.2 in (
      search rules,
      search rules,
      ap split_from c.split.ensures.kept ∙ loop.invariant.2,
      subst (λ l. All (λ f. f.routes.pass ≡ split_from c.args.pass.now) l) (sym pushed)
          (All-push (λ f. f.routes.pass ≡ split_from c.args.pass.now) _ _ loop.invariant.3 begins),
      hired (λ f. f.kit) c.args.kits.now.items loop.kits.items c.pop.new.self.items c.in-Some.kit loop.forwarders.items c.push.new.self.items forwarder
          loop.invariant.4 popped c.new.ensures.kit pushed,
      search rules,
      search rules,
      search rules,
    )
