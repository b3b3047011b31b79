use Rattle.std.proofs.Common.{sym, ap}
use Rattle.std.specs.Fmt.{digits}
use Rattle.proxy_core.specs.Refusals.{status_line}
use Rattle.proxy_api.specs.declared.calls.ApiRefusal.{ApiRefusal}
use Rattle.proxy_api.specs.Texts.{refusal_status}
use Rattle.proxy_api.proofs.texts.refusal_line.Goals as goal

pub returns-in-BadHead : goal.returns-in-BadHead
unfolding digits
returns-in-BadHead c = ap (λ (r : ApiRefusal). status_line (refusal_status r)) (sym c.in-BadHead.is)

pub returns-in-TooLarge : goal.returns-in-TooLarge
unfolding digits
returns-in-TooLarge c = ap (λ (r : ApiRefusal). status_line (refusal_status r)) (sym c.in-TooLarge.is)

pub returns-in-Coding : goal.returns-in-Coding
unfolding digits
returns-in-Coding c = ap (λ (r : ApiRefusal). status_line (refusal_status r)) (sym c.in-Coding.is)

pub returns-in-NoToken : goal.returns-in-NoToken
unfolding digits
returns-in-NoToken c = ap (λ (r : ApiRefusal). status_line (refusal_status r)) (sym c.in-NoToken.is)

pub returns-in-NoPlace : goal.returns-in-NoPlace
unfolding digits
returns-in-NoPlace c = ap (λ (r : ApiRefusal). status_line (refusal_status r)) (sym c.in-NoPlace.is)

pub returns-in-BadMethod : goal.returns-in-BadMethod
unfolding digits
returns-in-BadMethod c = ap (λ (r : ApiRefusal). status_line (refusal_status r)) (sym c.in-BadMethod.is)

pub returns-in-BadQuery : goal.returns-in-BadQuery
unfolding digits
returns-in-BadQuery c = ap (λ (r : ApiRefusal). status_line (refusal_status r)) (sym c.in-BadQuery.is)

pub returns-in-BadBody : goal.returns-in-BadBody
unfolding digits
returns-in-BadBody c = ap (λ (r : ApiRefusal). status_line (refusal_status r)) (sym c.in-BadBody.is)

pub returns-in-BadTarget : goal.returns-in-BadTarget
unfolding digits
returns-in-BadTarget c = ap (λ (r : ApiRefusal). status_line (refusal_status r)) (sym c.in-BadTarget.is)

pub returns-in-Memory : goal.returns-in-Memory
unfolding digits
returns-in-Memory c = ap (λ (r : ApiRefusal). status_line (refusal_status r)) (sym c.in-Memory.is)
