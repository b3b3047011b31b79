use Rattle.std.proofs.Common.{inl, inr, subst}
use Rattle.store_thread.specs.declared.mailbox.Talk.{Talk}
use Rattle.store_thread.specs.Far.{IsReadNow}
use Rattle.store_thread.proofs.caller.Caller.load.Goals as goal

pub returns-in-Some : goal.returns-in-Some
returns-in-Some g c = inl (c.take_read.ensures.same, c.in-Some.ensures.read)

pub returns-in-None : goal.returns-in-None
returns-in-None g c = inr (subst (λ (t : Talk). IsReadNow t c.read_now.result c.read_now.new.self) c.take_read.ensures.same c.read_now.ensures)
