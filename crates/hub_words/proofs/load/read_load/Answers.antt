use Rattle.hub_words.proofs.Simple.{load_is_free, load_is_simple}
use Rattle.hub_words.proofs.load.read_load.Goals as goal

pub read-requires-clause-free : goal.read-requires-clause-free
read-requires-clause-free c = load_is_free

pub read-requires-clause-simple : goal.read-requires-clause-simple
read-requires-clause-simple c = load_is_simple
