use Rattle.hub_words.proofs.Simple.{check_is_free, check_is_simple}
use Rattle.hub_words.proofs.check.read_check.Goals as goal

pub read-requires-clause-free : goal.read-requires-clause-free
read-requires-clause-free c = check_is_free

pub read-requires-clause-simple : goal.read-requires-clause-simple
read-requires-clause-simple c = check_is_simple
