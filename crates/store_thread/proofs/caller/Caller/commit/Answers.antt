use Rattle.std.proofs.Common.{List, inl, inr, refl, subst}
use Rattle.keeper.specs.declared.keeper.Item.{Item}
use Rattle.store_thread.specs.declared.calls.Call.TheVariants.{Commit}
use Rattle.store_thread.specs.Far.{IsHeard}
use Rattle.store_thread.proofs.caller.Caller.commit.Goals as goal

pub returns-in-Ok : goal.returns-in-Ok
returns-in-Ok g c = subst (λ (items : List Item). IsHeard c.args.self.now (Commit items) c.have_done.result c.have_done.new.self) c.in-Ok.ensures c.have_done.ensures

pub returns-in-Err : goal.returns-in-Err
returns-in-Err g c = inr (refl, inl refl)
