use Rattle.std.proofs.Common.{◌++◌, ◌∙◌}
use Rattle.scope_filters.specs.Grants.{grant_admits}
use Rattle.hub_view.proofs.Chains.{spelled, named, joined, user_shown}
use Rattle.hub_view.proofs.users.add_user.Goals as goal

pub returns : goal.returns
returns g c = λ x h kept.
    let shown = c.shown_fields-shown.result in
    let rights = c.shown_fields-shown.ensures in
    joined c.add-7.new.self x _ _ (c.add-7.ensures _ _ (joined c.add-6.new.self x _ _ (c.add-6.ensures _ _ (joined c.add-5.new.self x _ _ (c.add-5.ensures _ _
    (joined c.add-4.new.self x _ _ (c.add-4.ensures _ _ (joined c.add-3.new.self x _ _ (c.add-3.ensures _ _
    (joined c.add-2.new.self x _ _ (c.add-2.ensures _ _ (c.add.ensures x _ h c.truth.ensures) c.moment.ensures))
    (named c.names-groups.result _ _ c.names-groups.ensures c.as_slice.ensures)))
    c.fixed.ensures))
    c.moment_or_null-last_activity.ensures))
    (spelled c.line.result _ _ c.line.ensures c.as_str.ensures.value)))
    (named c.names-roles.result _ _ c.names-roles.ensures c.as_slice-2.ensures)) kept
    ∙ (λ i. x ++ user_shown (grant_admits (g.M.Members.context c.args.m.now) c.args.rights.now) c.args.named c.args.facts.now
    shown.account shown.groups shown.name shown.activity shown.roles rights.account rights.groups rights.name rights.activity rights.roles i)
