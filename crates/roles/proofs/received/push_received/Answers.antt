use Rattle.std.proofs.Common.{◌∙◌, ap}
use Rattle.std.specs.FinMap.{get}
use Rattle.std.specs.List.{flat_map}
use Rattle.hub_rows.specs.ShareOrder.{share_cmp}
use Rattle.keyed_rows.specs.Sorted.{in_order}
use Rattle.hub_tables.proofs.RowsAt.{own_groups, own_shares}
use Rattle.roles.specs.Received.{share_scopes}
use Rattle.roles.proofs.Appended.{more_given}
use Rattle.roles.proofs.SharesOf.{received_scopes}
use Rattle.roles.proofs.received.push_received.Goals as goal

pub returns : goal.returns
returns c =
    more_given c.push_scopes.result _ _
    (ap (flat_map (λ key. share_scopes (get c.args.t.now.shares key))) (c.as_slice.ensures.keys ∙ c.from_vec-keys.ensures ∙ ap (in_order share_cmp) c.in_ok-keys_received.ensures)
    ∙ received_scopes c.args.t.now c.args.user.now (own_shares c.args.t.now c.own_keys.ensures) (own_groups c.args.t.now c.own_keys.ensures))
    c.push_scopes.ensures
