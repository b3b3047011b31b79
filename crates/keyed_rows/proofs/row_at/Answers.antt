use Rattle.std.proofs.Common.{◌∙◌, sym}
use Rattle.keyed_rows.proofs.Finite.{get_row}
use Rattle.keyed_rows.proofs.row_at.Goals as goal

pub returns : goal.returns
returns g c = c.get.ensures.value ∙ sym (get_row g.met.K.Ord.total c.args.rows.now c.args.key.now)
