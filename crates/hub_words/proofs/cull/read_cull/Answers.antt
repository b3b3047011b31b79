use Rattle.hub_words.proofs.Simple.{cull_is_free, cull_is_simple}
use Rattle.hub_words.proofs.cull.read_cull.Goals as goal

pub read-requires-clause-free : goal.read-requires-clause-free
read-requires-clause-free c = cull_is_free

pub read-requires-clause-simple : goal.read-requires-clause-simple
read-requires-clause-simple c = cull_is_simple
