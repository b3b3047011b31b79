use Rattle.std.proofs.Common.{ap, ◌∙◌}
use Rattle.std.specs.Prelude.{codes}
use Rattle.std.proofs.lemmas.Result.{IfOk-weaker}
use Rattle.hub_view.specs.Pages.{paged_list}
use Rattle.hub_machine.specs.Replies.{gives, good}
use Rattle.hub_calls.specs.Rights.{may_of}
use Rattle.hub_calls.proofs.Listing.{groups_listed}
use Rattle.hub_calls.proofs.group_calls.get_groups.Goals as goal

pub returns : goal.returns
returns c = IfOk-weaker c.list_of.result _ _
    (λ a h. h ∙ ap (λ shown. gives (good 200 (paged_list (codes "/groups") c.args.page shown)))
    (groups_listed (may_of c.args.hub.now c.args.rights.now) c.args.hub.now c.tables-tables.result.now _ c.tables-tables.ensures c.own_keys.ensures c.groups_by_name-rows.ensures))
    c.list_of.ensures
