use Rattle.http_wire.proofs.RequestLemmas.{request_next}
use Rattle.http_wire.proofs.requests.read_request.Goals as goal

pub returns-clause-told : goal.returns-clause-told
returns-clause-told g c = λ left told decided. request_next left c.args.kept.now c.take_request-outcome.new.kept _ _ c.take_request-outcome.result c.take_request-outcome.ensures.ok c.take_request-outcome.ensures.err told decided
