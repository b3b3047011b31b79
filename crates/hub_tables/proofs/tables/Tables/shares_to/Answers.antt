use Rattle.std.proofs.Common.{◌∙◌, ap}
use Rattle.hub_tables.specs.Kept.{Shares}
use Rattle.hub_tables.specs.Lookups.{shares_with}
use Rattle.hub_tables.specs.State.{State}
use Rattle.row_indexes.proofs.Indexed.{if_ok}
use Rattle.hub_tables.proofs.Owners.{share_keys}
use Rattle.hub_tables.proofs.SharesTo.{keys_to}
use Rattle.hub_tables.proofs.tables.Tables.shares_to.Goals as goal

pub returns : goal.returns
returns c =
    if_ok c.share_keys_to.result (λ found e.
    e ∙ ap (keys_to c.args.to.now)
    (share_keys _ _ (c.self.invariant Shares).owned (c.self.invariant Shares).own c.args.to.now ∙ ap (λ (s : State). shares_with s c.args.to.now) c.self.view_is))
    c.share_keys_to.ensures
