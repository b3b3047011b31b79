use Rattle.std.proofs.Common.{◌∙◌, ap}
use Rattle.std.specs.FinMap.{keys}
use Rattle.keyed_rows.specs.Rows.{map_of}
use Rattle.row_indexes.specs.Owned.{owned_cmp, keys_under}
use Rattle.hub_rows.specs.ShareOrder.{share_cmp}
use Rattle.hub_tables.specs.Kept.{Shares}
use Rattle.hub_tables.specs.Lookups.{shares_with}
use Rattle.hub_tables.specs.Parties.{party_cmp}
use Rattle.hub_tables.specs.State.{State}
use Rattle.row_indexes.proofs.Indexed.{if_ok}
use Rattle.hub_tables.proofs.Owners.{share_keys}
use Rattle.hub_tables.proofs.tables.Tables.shares_with.Goals as goal

pub returns : goal.returns
returns c =
    if_ok c.owned_keys.result (λ found e.
    e ∙ ap (λ w. keys_under party_cmp w (keys (map_of (owned_cmp party_cmp share_cmp) c.self.inside.trees.share_parties))) c.of_recipient.ensures
    ∙ share_keys _ _ (c.self.invariant Shares).owned (c.self.invariant Shares).own c.args.to.now
    ∙ ap (λ (s : State). shares_with s c.args.to.now) c.self.view_is)
    c.owned_keys.ensures
