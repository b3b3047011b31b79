use Rattle.std.proofs.Common.{◌∙◌, ap, is_some}
use Rattle.keyed_rows.proofs.Finite as finite
use Rattle.keyed_rows.proofs.insert_row.Goals as goal

pub returns-in-Ok-clause-ok : goal.returns-in-Ok-clause-ok
returns-in-Ok-clause-ok g c = finite.put_row g.met.K.Ord.total g.met.K.Key.exact c.args.rows.now c.insert.new.self c.args.key c.args.row c.in-Ok.ensures.updates.0

pub returns-clause-memory : goal.returns-clause-memory
returns-clause-memory g c = finite.kept_row g.met.K.Ord.total c.args.rows.now c.args.key ∙ ap is_some c.in-Err.ensures.absent
