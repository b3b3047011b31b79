use Rattle.std.proofs.Common.{rules, ◌≡◌, length, ap, sym, ◌∙◌}
use Rattle.worker_hall.proofs.ShiftLemmas.{same_lent}
use denote.Param.Send.{sendable}
use Rattle.worker_hall.proofs.Sent.{worker_send}
use Rattle.worker_hall.proofs.workers.run_all.Goals as goal

pub returns-clause-lent : goal.returns-clause-lent
returns-clause-lent g c =
    let long : length c.for_each_mut.new.s ≡ length c.args.workers.now = search rules in
    same_lent (λ w. w.lent.value) c.args.workers.now c.for_each_mut.new.s long (λ i d less.
    let change = (c.for_each_mut.ensures i d less).1 in
    ap (λ w. w.lent.value) (sym change.left) ∙ (change.call.0 ∙ ap (λ w. w.lent.value) change.argument_is))

pub for_each_mut-requires-send-T : goal.for_each_mut-requires-send-T
for_each_mut-requires-send-T g c κs within = search (sendable, worker_send)
