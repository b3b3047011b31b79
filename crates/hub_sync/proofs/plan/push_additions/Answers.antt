use Rattle.std.proofs.Common.{◌++◌, ◌∷◌, [], take, ap, sym, add-one, ◌∙◌}
use Rattle.std.proofs.Math.Seq.{take-suc}
use Rattle.hub_sync.specs.Plans.{addition_of}
use Rattle.hub_sync.proofs.Pushing.{pushed}
use Rattle.hub_sync.proofs.plan.push_additions.Goals as goal

pub loop-live-preserved : goal.loop-live-preserved
loop-live-preserved c =
    let i = c.loop-live.live-index in
    let xs = c.args.servers.now in
    let live = c.live-item.result in
    pushed (addition_of c.args.listed.now) xs i live c.args.calls.now.items c.loop-live.calls.items c.push_call.new.calls.items c.in_ok-addition_of.field-0
    (ap (λ n. take n xs) (add-one i) ∙ (take-suc xs i live c.loop-live-test.true ∙ ap (λ x. take i xs ++ x ∷ []) (sym c.live-item.is)))
    c.in_ok-addition_of.ensures c.loop-live.invariant c.in_ok-push_call.ensures
