use Rattle.http_wire.proofs.RequestLemmas.{next_request_once}
use Rattle.http_wire.proofs.laws.next_request_is_one.Goals as goal

pub returns : goal.returns
returns c = next_request_once
