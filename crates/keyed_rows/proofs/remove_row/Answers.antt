use Rattle.std.proofs.Common.{◌∙◌, sym, ap, is_some}
use Rattle.keyed_rows.proofs.Finite.{kept_row, removed_row}
use Rattle.keyed_rows.proofs.remove_row.Goals as goal

pub returns-clause-there : goal.returns-clause-there
returns-clause-there g c = c.is_some.ensures ∙ ap is_some c.remove.ensures.value ∙ sym (kept_row g.met.K.Ord.total c.args.rows.now c.args.key.now)

pub returns-clause-removed : goal.returns-clause-removed
returns-clause-removed g c = removed_row g.met.K.Ord.total g.met.K.Key.exact c.args.rows.now c.remove.new.self c.args.key.now c.remove.ensures.updates.0
