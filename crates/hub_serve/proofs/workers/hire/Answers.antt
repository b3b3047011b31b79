use Rattle.std.proofs.Common.{rules, ◌≡◌, ◌+◌, ◌++◌, ◌∷◌, [], All, Some, length, subst, sym, ap, ◌∙◌}
use Rattle.std.proofs.lemmas.List.{length-append}
use Rattle.std.proofs.lemmas.List.Elements.{All-push}
use Rattle.std.specs.Option.{option_to_list}
use Rattle.desk.specs.Seats.{only}
use Rattle.keeper.specs.Pasts.{entries_of}
use Rattle.hub_serve.specs.Shifts.{split_from}
use Rattle.hub_serve.proofs.ShiftLemmas.{hired, one_more_out}
use Rattle.hub_serve.proofs.workers.hire.Goals as goal

pub loop-kit-preserved : goal.loop-kit-preserved
loop-kit-preserved g c =
    let loop = c.loop-kit in
    let worker = c.new.result in
    let popped : loop.kits.items ≡ c.pop.new.self.items ++ c.in-Some.kit ∷ [] =
    subst (λ r. loop.kits.items ≡ c.pop.new.self.items ++ option_to_list r) c.in-Some.is c.pop.ensures.items in
    let pushed : c.push.new.self.items ≡ loop.workers.items ++ worker ∷ [] = c.in-Ok.ensures.items in
    let long : length c.push.new.self.items ≡ length loop.workers.items + 1 = ap length pushed ∙ length-append loop.workers.items (worker ∷ []) in
    let split : c.unwrap-own.result ≡ split_from loop.pass = search rules in
    let own : (worker.pass ≡ split_from c.args.pass.now) × (entries_of worker.shift ≡ []) × (worker.kit ≡ worker.lent.value) =
    (c.new.ensures.idle.0 ∙ split ∙ ap split_from loop.invariant.0, c.new.ensures.idle.1, c.new.ensures.lent.0 ∙ sym c.new.ensures.lent.1) in (
      subst (λ n. c.split.new.pass ≡ record c.args.pass.now { others = Some n; alone = only (Some n) }) (sym long)
          (one_more_out c.args.pass.now loop.pass c.split.new.pass (length loop.workers.items) loop.invariant.0 c.split.ensures.kept),
      subst (λ l. All (λ w. (w.pass ≡ split_from c.args.pass.now) × (entries_of w.shift ≡ []) × (w.kit ≡ w.lent.value)) l) (sym pushed)
          (All-push (λ w. (w.pass ≡ split_from c.args.pass.now) × (entries_of w.shift ≡ []) × (w.kit ≡ w.lent.value)) _ _ loop.invariant.1 own),
      hired (λ w. w.lent.value) c.args.kits.now.items loop.kits.items c.pop.new.self.items c.in-Some.kit loop.workers.items c.push.new.self.items worker
          loop.invariant.2 popped c.new.ensures.lent.1 pushed,
      search rules,
      search rules,
      search rules,
      search rules,
      search rules,
    )
