use Rattle.http_wire.proofs.StreamLemmas.{next_head_once}
use Rattle.http_wire.proofs.laws.next_head_is_one.Goals as goal

pub returns : goal.returns
returns c = next_head_once
