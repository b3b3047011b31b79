use Rattle.std.proofs.Common.{subst}
use Rattle.std.proofs.lemmas.Result.{IfOk-weaker}
use Rattle.hub_tables.specs.State.{State}
use Rattle.admin_rules.specs.Rules.{Says}
use Rattle.admin_rules.specs.Servers.{delete_server}
use Rattle.hub_calls.proofs.stops.at_rest.Goals as goal

pub returns-then-remove : goal.returns-then-remove
returns-then-remove c =
    let says = subst (λ (t : State). Says (delete_server t c.args.server.now) c.delete_server.result) c.tables.ensures c.delete_server.ensures.answer in
    rw c.if-remove.true (IfOk-weaker c.carried.result _ _ (λ a h. h _ says c.args.hub.now) c.carried.ensures)
