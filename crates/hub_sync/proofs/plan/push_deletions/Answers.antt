use Rattle.std.proofs.Common.{◌++◌, ◌∷◌, [], take, ap, sym, add-one, ◌∙◌}
use Rattle.std.proofs.Math.Seq.{take-suc}
use Rattle.hub_sync.specs.Plans.{deletion_of}
use Rattle.hub_sync.proofs.Pushing.{pushed}
use Rattle.hub_sync.proofs.plan.push_deletions.Goals as goal

pub loop-route-preserved : goal.loop-route-preserved
loop-route-preserved g c =
    let i = c.loop-route.route-index in
    let xs = c.args.listed.now in
    let route = c.route-item.result in
    pushed (deletion_of c.args.book.now.hub.lives) xs i route c.args.calls.now.items c.loop-route.calls.items c.push_call.new.calls.items c.in_ok-deletion_of.field-0
    (ap (λ n. take n xs) (add-one i) ∙ (take-suc xs i route c.loop-route-test.true ∙ ap (λ x. take i xs ++ x ∷ []) (sym c.route-item.is)))
    c.in_ok-deletion_of.ensures c.loop-route.invariant c.in_ok-push_call.ensures
