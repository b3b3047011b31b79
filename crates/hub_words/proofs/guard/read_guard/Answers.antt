use Rattle.hub_words.proofs.Simple.{guard_is_free, guard_is_simple}
use Rattle.hub_words.proofs.guard.read_guard.Goals as goal

pub read-requires-clause-free : goal.read-requires-clause-free
read-requires-clause-free c = guard_is_free

pub read-requires-clause-simple : goal.read-requires-clause-simple
read-requires-clause-simple c = guard_is_simple
