use Rattle.std.proofs.Common.{arith}
use Rattle.http_wire.specs.declared.error.WireError.TheVariants.{Memory}
use Rattle.http_wire.proofs.RequestLemmas.{body_missed, request_made}
use Rattle.http_wire.proofs.requests.take_request.Goals as goal

pub returns-in-Err-read_body-clause-err : goal.returns-in-Err-read_body-clause-err
returns-in-Err-read_body-clause-err g c =
    let head = c.in-Ok.ensures.ok in
    let body = c.in-Err-read_body.ensures.err in
    body_missed _ _ _ _ _ _ body.0 head.0 c.in-Ok.head c.in-Ok-body_due.count c.in-Err-read_body.e head.1 head.2 c.in-Ok-body_due.ensures head.3 body.1 body.2 body.3

pub returns-in-Ok-request_of-clause-ok : goal.returns-in-Ok-request_of-clause-ok
returns-in-Ok-request_of-clause-ok g c =
    let head = c.in-Ok.ensures.ok in
    let body = c.in-Ok-read_body.ensures.ok in
    request_made _ _ _ _ _ _ c.in-Ok-read_body.body head.0 c.in-Ok.head c.in-Ok-body_due.count c.in-Ok-request_of.request head.1 head.2 c.in-Ok-body_due.ensures head.3 body.1 body.0 c.in-Ok-request_of.ensures

pub returns-in-Err-request_of-clause-err : goal.returns-in-Err-request_of-clause-err
returns-in-Err-request_of-clause-err g c =
    let head = c.in-Ok.ensures.ok in
    let body = c.in-Ok-read_body.ensures.ok in
    body_missed _ _ _ _ _ _ c.in-Ok-read_body.body head.0 c.in-Ok.head c.in-Ok-body_due.count Memory head.1 head.2 c.in-Ok-body_due.ensures head.3 body.1 (omega (arith, body.0)) tt
