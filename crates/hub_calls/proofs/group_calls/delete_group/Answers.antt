use Rattle.std.proofs.lemmas.Result.{IfOk-weaker}
use Rattle.hub_calls.proofs.group_calls.delete_group.Goals as goal

pub returns : goal.returns
returns c =
    let says = rw c.tables.ensures at c.delete_group.ensures.answer in
    IfOk-weaker c.carried.result _ _ (λ a h. h _ says c.args.hub.now) c.carried.ensures
