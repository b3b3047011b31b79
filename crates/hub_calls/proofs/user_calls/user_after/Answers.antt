use Rattle.std.proofs.Common.{◌∙◌, sym, ap}
use Rattle.std.proofs.lemmas.Result.{IfOk-weaker}
use Rattle.hub_calls.specs.Puts.{with_put_user}
use Rattle.hub_calls.specs.Rights.{may_of}
use Rattle.hub_calls.proofs.Putting.{user_shown}
use Rattle.hub_calls.proofs.user_calls.user_after.Goals as goal

pub returns : goal.returns
returns c = IfOk-weaker c.put_or_kept.result _ _
    (λ body h. h ∙ ap (with_put_user (may_of c.args.hub.now c.args.rights.now) c.args.hub.now c.args.user.now) c.user_put.ensures
    ∙ sym (user_shown (may_of c.args.hub.now c.args.rights.now) c.args.hub.now c.args.rows.now c.args.user.now c.requires))
    c.put_or_kept.ensures
