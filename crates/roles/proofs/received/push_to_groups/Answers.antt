use Rattle.std.proofs.Common.{◌++◌, ◌∙◌, ap}
use Rattle.hub_rows.specs.declared.keys.Recipient.TheVariants as To
use Rattle.hub_tables.specs.Lookups.{shares_with}
use Rattle.roles.proofs.Walks.{flat_more, flat_all}
use Rattle.roles.proofs.received.push_to_groups.Goals as goal

pub loop-group-preserved : goal.loop-group-preserved
loop-group-preserved c =
    flat_more (λ group. shares_with c.args.t.now (To.Group group)) c.args.keys.now.items c.loop-group.keys.items _ c.args.groups.now c.loop-group.group-index c.group-item.result c.group-item.is c.loop-group-test.true c.loop-group.invariant (c.in_ok-extend_from_slice.ensures.items ∙ ap (λ r. c.loop-group.keys.items ++ r) (c.deref.ensures.value ∙ c.in_ok-more.ensures))

pub returns : goal.returns
returns c = flat_all (λ group. shares_with c.args.t.now (To.Group group)) c.args.keys.now.items _ c.args.groups.now c.loop-group.group-index c.loop-group-test.false c.loop-group.invariant
