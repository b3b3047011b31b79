use Rattle.std.proofs.Common.{◌∙◌, sym, ap}
use Rattle.std.proofs.lemmas.Result.{IfOk-weaker}
use Rattle.hub_calls.specs.Puts.{with_put_group}
use Rattle.hub_calls.specs.Rights.{may_of}
use Rattle.hub_calls.proofs.Putting.{group_shown}
use Rattle.hub_calls.proofs.group_calls.group_after.Goals as goal

pub returns : goal.returns
returns c = IfOk-weaker c.put_or_kept_group.result _ _
    (λ body h. h ∙ ap (with_put_group (may_of c.args.hub.now c.args.rights.now) c.args.hub.now c.args.group.now) c.group_put.ensures
    ∙ sym (group_shown (may_of c.args.hub.now c.args.rights.now) c.args.hub.now c.args.rows.now c.args.group.now c.requires))
    c.put_or_kept_group.ensures
