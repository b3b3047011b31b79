use Rattle.hub_api.proofs.Asked.{asked_of}
use Rattle.hub_api.proofs.grants.authorize_ask.Goals as goal

pub returns : goal.returns
returns c = asked_of c.args.request.now _ _ _ _ _ c.as_bytes-query.ensures
    c.in_ok-form_value.ensures c.in_ok-form_value-2.ensures c.in_ok-form_value-3.ensures c.in_ok-form_value-4.ensures
