use Rattle.std.proofs.Common.{true, map, refl, ap, ◌∙◌}
use Rattle.std.specs.Prelude.{codes}
use Rattle.std.proofs.lemmas.Result.{IfOk-weaker}
use Rattle.hub_kit.specs.KeyOrder.{name_cmp}
use Rattle.keyed_rows.specs.Rows.{map_of}
use Rattle.scope_meet.specs.Admitted.{is_admitted}
use Rattle.scope_meet.specs.declared.admitted.Admitted.TheVariants.{Every}
use Rattle.hub_view.specs.Pages.{kept, paged_list}
use Rattle.hub_machine.specs.Replies.{gives, good}
use Rattle.hub_calls.specs.Facts.{role_at}
use Rattle.hub_calls.proofs.Listing.{page_is, total_is, roles_listed}
use Rattle.hub_calls.proofs.role_calls.get_roles.Goals as goal

pub returns : goal.returns
returns c =
    let s = c.args.hub.now in
    let rows = map_of name_cmp c.roles_by_name-rows.result.now in
    IfOk-weaker c.listed.result _ _
    (λ a h. h (map (role_at s) (kept (λ name. true) rows))
    (page_is c.args.page rows (is_admitted name_cmp Every) (λ name. true) (λ name. refl) (role_at s) c.in_ok-part.part.names.items _ c.in_ok-part.ensures.names (c.in_ok-bodies.ensures ∙ ap (map (role_at s)) c.as_slice.ensures.value))
    (total_is c.args.page rows (is_admitted name_cmp Every) (λ name. true) (λ name. refl) (role_at s) c.in_ok-part.part.total c.in_ok-part.ensures.total)
    ∙ ap (λ shown. gives (good 200 (paged_list (codes "/roles") c.args.page shown))) (roles_listed s c.tables-tables.result.now rows c.tables-tables.ensures c.own_keys.ensures c.roles_by_name-rows.ensures))
    c.listed.ensures
