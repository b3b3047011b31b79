use Rattle.std.proofs.Common.{subst}
use Rattle.keyed_rows.specs.Puts.{IsAnswerIn}
use Rattle.keyed_rows.specs.Rows.{map_of}
use Rattle.hub_rows.specs.contracts.keys.ShareKeyOrd.TheImpl.Laws.{total-law}
use Rattle.keyed_rows.proofs.Finite.{own_put}
use Rattle.hub_rows.specs.declared.records.Share.{Share}
use Rattle.hub_tables.specs.Kept.{Shares}
use Rattle.hub_rows.specs.ShareOrder.{share_cmp, share_exact}
use Rattle.hub_tables.proofs.Kept.{shares_kept}
use Rattle.hub_tables.proofs.tables.Tables.put_share.Goals as goal

pub put_share-requires : goal.put_share-requires
put_share-requires c = record { own = (c.self.invariant Shares).own; owned = (c.self.invariant Shares).owned }

pub invariant_of-self : goal.invariant_of-self
invariant_of-self c =
    shares_kept c.self.inside.trees c.put_share.new.rows c.put_share.new.parties c.self.invariant (record {
      own = own_put total-law share_exact (λ (row : Share). row.key) _ _ c.args.value c.put_share.result c.put_share.ensures.ok c.put_share.ensures.err (c.self.invariant Shares).own;
      owned = c.put_share.ensures.owned;
    })

pub returns-clause-answer : goal.returns-clause-answer
returns-clause-answer c =
    rw (← c.self.view_is) (subst (λ room. IsAnswerIn room (map_of share_cmp c.self.inside.trees.shares) c.args.value.key c.put_share.result) c.room_of-room.ensures c.put_share.ensures.answer)
