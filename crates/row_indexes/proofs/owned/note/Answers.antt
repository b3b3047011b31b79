use Rattle.row_indexes.proofs.Indexed.{noted, owned_total, on_ok}
use Rattle.row_indexes.proofs.owned.note.Goals as goal

pub returns-clause-ok : goal.returns-clause-ok
returns-clause-ok g c = on_ok c.insert_row.result (noted g.O.Ord.cmp g.K.Ord.cmp (owned_total g.met.O.Ord.total g.met.K.Ord.total) c.args.owner.now c.args.key.now _ _) c.insert_row.ensures.ok
