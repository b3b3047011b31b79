use Rattle.std.proofs.Common.{◌++◌, refl, codes}
use Rattle.hub_view.specs.Json.{line, lines, member, pairs}
use Rattle.hub_view.proofs.Chains.{retold, spelled, named}
use Rattle.hub_view.proofs.groups.group_body.Goals as goal

pub returns : goal.returns
returns g c = retold c.into_body.result _ _
    (c.into_body.ensures _ (c.add-4.ensures _ _ (c.add-3.ensures _ _ (c.add-2.ensures _ _ (c.add.ensures _ _ c.new-fields.ensures c.fixed.ensures)
    (spelled c.line.result _ _ c.line.ensures c.as_str.ensures.value))
    (named c.names.result _ _ c.names.ensures refl))
    (named c.names-2.result _ _ c.names-2.ensures c.as_slice.ensures.keys)))
    (λ i. pairs (member (c.admits-named.ensures i) (codes "kind") (line (codes "group"))
    ++ member (c.admits-named.ensures i) (codes "name") (line c.args.group.now.name)
    ++ member (c.admits-with_roles.ensures i) (codes "roles") (lines c.args.roles.now)
    ++ member (c.admits-whole.ensures i) (codes "users") (lines c.args.group.now.users)))
