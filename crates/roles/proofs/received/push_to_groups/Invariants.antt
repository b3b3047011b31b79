use Rattle.std.proofs.Common.{◌≡◌, ◌++◌, take, flat_map}
use Rattle.hub_rows.specs.declared.keys.Recipient.TheVariants as To
use Rattle.hub_tables.specs.Lookups.{shares_with}
use Rattle.roles.proofs.received.push_to_groups.Given as goal

abbrev pub invariant-loop-group : goal.invariant-loop-group
invariant-loop-group l = l.keys.items ≡ l.fn.keys.items ++ flat_map (λ group. shares_with l.t (To.Group group)) (take l.group-index l.groups)
