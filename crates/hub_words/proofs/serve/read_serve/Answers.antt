use Rattle.hub_words.proofs.Simple.{serve_is_free, serve_is_simple}
use Rattle.hub_words.proofs.serve.read_serve.Goals as goal

pub read-requires-clause-free : goal.read-requires-clause-free
read-requires-clause-free c = serve_is_free

pub read-requires-clause-simple : goal.read-requires-clause-simple
read-requires-clause-simple c = serve_is_simple
