use Rattle.std.proofs.Common.{◌≡◌, take}
use Rattle.store_thread.proofs.calls.copy_batch.Given as goal

abbrev pub invariant-loop-item : goal.invariant-loop-item
invariant-loop-item l = l.items.items ≡ take l.item-index l.batch
