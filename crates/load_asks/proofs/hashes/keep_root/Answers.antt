use Rattle.load_asks.proofs.HashLemmas.{keeps_root}
use Rattle.load_asks.proofs.hashes.keep_root.Goals as goal

pub returns : goal.returns
returns c = keeps_root c.args.kept.now c.insert.new.self c.in_ok-hash.hash c.requires c.in_ok-hash.ensures c.in-Ok.ensures.updates
