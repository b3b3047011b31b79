use Rattle.hub_words.proofs.Simple.{session_is_free, session_is_simple}
use Rattle.hub_words.proofs.session.read_session.Goals as goal

pub read-requires-clause-free : goal.read-requires-clause-free
read-requires-clause-free c = session_is_free

pub read-requires-clause-simple : goal.read-requires-clause-simple
read-requires-clause-simple c = session_is_simple
