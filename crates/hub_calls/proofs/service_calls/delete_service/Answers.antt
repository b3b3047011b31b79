use Rattle.std.proofs.lemmas.Result.{IfOk-weaker}
use Rattle.hub_calls.proofs.service_calls.delete_service.Goals as goal

pub returns : goal.returns
returns c =
    let says = rw c.tables.ensures at c.delete_service.ensures.answer in
    IfOk-weaker c.carried.result _ _ (λ a h. h _ says c.args.hub.now) c.carried.ensures
