use Rattle.std.proofs.Common.{◌∙◌, sym}
use Rattle.keyed_rows.proofs.Finite.{get_row, removed_row}
use Rattle.keyed_rows.proofs.take_row.Goals as goal

pub returns-clause-row : goal.returns-clause-row
returns-clause-row g c = c.remove.ensures.value ∙ sym (get_row g.met.K.Ord.total c.args.rows.now c.args.key.now)

pub returns-clause-removed : goal.returns-clause-removed
returns-clause-removed g c = removed_row g.met.K.Ord.total g.met.K.Key.exact c.args.rows.now c.remove.new.self c.args.key.now c.remove.ensures.updates.0
