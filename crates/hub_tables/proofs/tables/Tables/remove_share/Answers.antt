use Rattle.hub_rows.specs.contracts.keys.ShareKeyOrd.TheImpl.Laws.{total-law}
use Rattle.keyed_rows.proofs.Finite.{own_removed}
use Rattle.hub_rows.specs.declared.records.Share.{Share}
use Rattle.hub_tables.specs.Kept.{Shares}
use Rattle.hub_rows.specs.ShareOrder.{share_exact}
use Rattle.hub_tables.proofs.Kept.{shares_kept}
use Rattle.hub_tables.proofs.tables.Tables.remove_share.Goals as goal

pub remove_share-requires : goal.remove_share-requires
remove_share-requires c = record { own = (c.self.invariant Shares).own; owned = (c.self.invariant Shares).owned }

pub invariant_of-self : goal.invariant_of-self
invariant_of-self c =
    shares_kept c.self.inside.trees c.remove_share.new.rows c.remove_share.new.parties c.self.invariant (record {
      own = own_removed total-law share_exact (λ (row : Share). row.key) _ _ (record { server = c.args.server.now; to = c.args.to.now }) c.remove_share.ensures.removed (c.self.invariant Shares).own;
      owned = c.remove_share.ensures.owned;
    })
