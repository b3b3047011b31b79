use Rattle.std.proofs.Common.{subst, sym, refl}
use Rattle.store_thread.specs.declared.mailbox.Talk.{Talk}
use Rattle.store_thread.specs.Runs.{WentAt}
use Rattle.store_thread.proofs.store_thread.answer_all.Goals as goal

pub loop-init : goal.loop-init
loop-init g c =
    let b = g.K.Keeper in
    let k = c.args.store.now in
    subst (λ (t : Talk). WentAt b.Tells b.rows b.is_told b.faults b.Chooses k t k) (sym c.requires) (k, refl, refl)
