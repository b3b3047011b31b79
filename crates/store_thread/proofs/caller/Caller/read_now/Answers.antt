use Rattle.std.proofs.Common.{inl, ap}
use Rattle.store_thread.specs.Far.{said_read}
use Rattle.store_thread.proofs.caller.Caller.read_now.Goals as goal

pub returns-in-Some-rows : goal.returns-in-Some-rows
returns-in-Some-rows g c = inl (c.in-Some.answer, ap said_read c.in-Some-rows.is, c.in-Some.ensures)

pub returns-in-None : goal.returns-in-None
returns-in-None g c = inl (c.in-Some.answer, ap said_read c.in-None.is, c.in-Some.ensures)
