use Rattle.std.proofs.Common.{◌∙◌, sym}
use Rattle.keyed_rows.proofs.Finite.{len_row}
use Rattle.keyed_rows.proofs.count.Goals as goal

pub returns : goal.returns
returns g c = c.len.ensures.len ∙ sym (len_row g.met.K.Ord.total c.args.rows.now c.len.ensures.ordered)
