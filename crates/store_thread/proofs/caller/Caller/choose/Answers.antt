use Rattle.std.proofs.Common.{inl, inr, refl, sym, ap, ◌∙◌, subst, Option, List, ℕ}
use Rattle.std.specs.Borrow.{Bor}
use Rattle.keeper.specs.Rows.{place_of}
use Rattle.store_thread.specs.declared.calls.Call.{Call}
use Rattle.store_thread.specs.declared.calls.Call.TheVariants.{Open}
use Rattle.store_thread.specs.Far.{choice, IsHeard}
use Rattle.store_thread.proofs.caller.Caller.choose.Goals as goal

pub returns-in-Ok : goal.returns-in-Ok
returns-in-Ok g c = subst (λ (call : Call). IsHeard c.args.self.now call c.open.result c.open.new.self)
    (ap Open c.in-Ok.ensures ∙ ap (λ (o : Option (Bor (List ℕ))). choice (place_of o)) (sym c.in-Some.is)) c.open.ensures

pub returns-in-Err : goal.returns-in-Err
returns-in-Err g c = inr (refl, inl refl)

pub returns-in-None : goal.returns-in-None
returns-in-None g c =
    subst (λ (o : Option (Bor (List ℕ))). IsHeard c.args.self.now (choice (place_of o)) c.have_done.result c.have_done.new.self) (sym c.in-None.is) c.have_done.ensures
