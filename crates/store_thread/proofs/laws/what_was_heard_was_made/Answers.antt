use Rattle.std.proofs.Common.{◌≡◌, subst, sym}
use Rattle.store_thread.specs.declared.mailbox.Talk.{Talk}
use Rattle.store_thread.specs.Runs.{WentAt}
use Rattle.store_thread.proofs.Running.{heard_went}
use Rattle.store_thread.proofs.laws.what_was_heard_was_made.Goals as goal

pub returns : goal.returns
returns g c parcels views i j far near began k mailed at_far at_near asks answers went =
    let b = g.K.Keeper in
    let is : far.talk ≡ mailed.2 = ((mailed.5 i far at_far).0 asks).1 in
    let is' : near.talk ≡ mailed.3 = ((mailed.5 j near at_near).1 answers).1 in
    subst (λ (t : Talk). WentAt b.Tells b.rows b.is_told b.faults b.Chooses began t k) (sym is)
    (heard_went b.Tells b.rows b.is_told b.faults b.Chooses g.met.K.Keeper.decides began k parcels mailed.2 mailed.3 mailed.4
    (subst (λ (t : Talk). WentAt b.Tells b.rows b.is_told b.faults b.Chooses began t k) is' went))
