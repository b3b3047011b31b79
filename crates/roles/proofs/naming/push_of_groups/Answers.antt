use Rattle.std.proofs.Common.{◌++◌, ◌∙◌, ap}
use Rattle.hub_tables.specs.Lookups.{roles_naming_group}
use Rattle.roles.proofs.Walks.{flat_more, flat_all}
use Rattle.roles.proofs.naming.push_of_groups.Goals as goal

pub loop-group-preserved : goal.loop-group-preserved
loop-group-preserved c =
    flat_more (roles_naming_group c.args.t.now) c.args.names.now.items c.loop-group.names.items _ c.args.groups.now c.loop-group.group-index c.group-item.result c.group-item.is c.loop-group-test.true c.loop-group.invariant (c.in_ok-extend_from_slice.ensures.items ∙ ap (λ r. c.loop-group.names.items ++ r) (c.deref.ensures.value ∙ c.in_ok-more.ensures))

pub returns : goal.returns
returns c = flat_all (roles_naming_group c.args.t.now) c.args.names.now.items _ c.args.groups.now c.loop-group.group-index c.loop-group-test.false c.loop-group.invariant
