use Rattle.std.proofs.Common.{◌∙◌, ap}
use Rattle.std.specs.FinMap.{get}
use Rattle.std.specs.List.{flat_map}
use Rattle.hub_tables.proofs.RowsAt.{own_roles}
use Rattle.roles.specs.Naming.{role_scopes}
use Rattle.roles.proofs.Appended.{more_given}
use Rattle.roles.proofs.RolesOf.{held_scopes}
use Rattle.roles.proofs.held.push_roles.Goals as goal

pub returns : goal.returns
returns c =
    more_given c.push_named.result _ _
    (ap (flat_map (λ name. role_scopes (get c.args.t.now.roles name))) (c.as_slice.ensures.keys ∙ c.in_ok-names.ensures)
    ∙ held_scopes c.args.t.now (own_roles c.args.t.now c.own_keys.ensures) c.args.owner.now)
    c.push_named.ensures
