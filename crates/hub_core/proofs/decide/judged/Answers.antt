use Rattle.std.proofs.lemmas.Result.{IfOk-weaker}
use Rattle.hub_calls.specs.Rights.{may_of}
use Rattle.hub_core.proofs.Deciding.{judged}
use Rattle.hub_core.proofs.decide.judged.Goals as goal

pub returns-in-Ok : goal.returns-in-Ok
returns-in-Ok c =
    let held = rw c.needs.ensures at c.is_held-is_held.ensures in
    let inside = rw c.tables.ensures at c.in-Ok.ensures in
    IfOk-weaker c.with_room.result _ _ (λ a h. record {
      judgement = record { may = may_of c.args.hub.now c.args.grant.now; is_held = c.is_held-is_held.result; inside = c.in-Ok.inside };
      judged = judged c.args.hub.now c.args.token.now c.args.grant.now c.is_held-is_held.result c.in-Ok.inside c.args.call.now c.requires.admits c.requires.holds held inside;
      is = h;
    }) c.with_room.ensures
