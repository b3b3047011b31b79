use Rattle.row_indexes.proofs.Indexed.{forgotten, owned_total}
use Rattle.row_indexes.proofs.owned.forget.Goals as goal

pub returns : goal.returns
returns g c = forgotten g.O.Ord.cmp g.K.Ord.cmp (owned_total g.met.O.Ord.total g.met.K.Ord.total) c.args.owner.now c.args.key.now _ _ c.remove_row.ensures.removed
