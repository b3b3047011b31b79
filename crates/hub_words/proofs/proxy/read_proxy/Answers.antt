use Rattle.hub_words.proofs.Simple.{proxy_is_free, proxy_is_simple}
use Rattle.hub_words.proofs.proxy.read_proxy.Goals as goal

pub read-requires-clause-free : goal.read-requires-clause-free
read-requires-clause-free c = proxy_is_free

pub read-requires-clause-simple : goal.read-requires-clause-simple
read-requires-clause-simple c = proxy_is_simple
