use Rattle.std.proofs.Common.{◌≡◌, ◌||◌, ◌++◌, refl, ◌∙◌, codes}
use Rattle.scope_names.specs.declared.action.Action.TheVariants.{ReadServicesName}
use Rattle.scope_filters.specs.Grants.{grant_admits}
use Rattle.scope_filters.specs.declared.object.Object.TheVariants.{Service}
use Rattle.hub_view.specs.Json.{line, lines, member}
use Rattle.hub_view.proofs.Arms.{either, other}
use Rattle.hub_view.proofs.Chains.{spelled, named, joined}
use Rattle.hub_view.proofs.groups.add_service.Goals.{then-named, else-named}
use Rattle.hub_view.proofs.groups.add_service.Goals as goal

pub returns : goal.returns
returns g c = λ x h kept.
    let may = grant_admits (g.M.Members.context c.args.m.now) c.args.rights.now in
    let by_name = may ReadServicesName (Service c.args.service.now) in
    let shown : c.if-named.named ≡ (c.args.named || by_name)
    = elim c.if-named.branch [
      | then-named w ↦ either c.args.named by_name c.if-named.named w.named-is w.if-named.true
      | else-named w ↦ other c.args.named by_name c.if-named.named (w.named-is ∙ w.admits-named.ensures) w.if-named.false
    ] in
    joined c.add-3.new.self x _ _ (c.add-3.ensures _ _ (joined c.add-2.new.self x _ _ (c.add-2.ensures _ _ (c.add.ensures x _ h c.fixed.ensures)
    (spelled c.line.result _ _ c.line.ensures c.as_str.ensures.value)))
    (named c.names.result _ _ c.names.ensures refl)) kept
    ∙ (λ i. x ++ (member (shown i) (codes "kind") (line (codes "service")) ++ member (shown i) (codes "name") (line c.args.service.now)
    ++ member (c.admits-with_roles.ensures i) (codes "roles") (lines c.args.roles.now)))
