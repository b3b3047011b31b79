use Rattle.std.proofs.Common.{◌∙◌, ap}
use Rattle.hub_kit.specs.KeyOrder.{name_cmp}
use Rattle.keyed_rows.specs.Sorted.{in_order}
use Rattle.hub_tables.proofs.RowsAt.{own_roles, own_groups}
use Rattle.roles.proofs.RolesOf.{names_in_order}
use Rattle.roles.proofs.naming.names_held.Goals as goal

pub returns : goal.returns
returns c =
    c.from_vec.ensures ∙ ap (in_order name_cmp) c.in_ok-names.ensures
    ∙ names_in_order c.args.t.now (own_roles c.args.t.now c.own_keys.ensures) (own_groups c.args.t.now c.own_keys.ensures) c.args.owner.now
