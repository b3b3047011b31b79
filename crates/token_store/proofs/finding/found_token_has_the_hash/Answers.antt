use Rattle.token_store.proofs.Kept.{finds_hash}
use Rattle.token_store.proofs.finding.found_token_has_the_hash.Goals as goal

pub returns : goal.returns
returns c = finds_hash
