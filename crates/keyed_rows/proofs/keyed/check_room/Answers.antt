use Rattle.std.proofs.Common.{◌∙◌, Some, sym, ap}
use Rattle.keyed_rows.proofs.Finite.{len_row}
use Rattle.keyed_rows.specs.Puts.{room_left}
use Rattle.keyed_rows.proofs.keyed.check_room.Goals as goal

pub returns-clause-left : goal.returns-clause-left
returns-clause-left g c = c.room_left.ensures ∙ ap (λ n. room_left n (Some c.args.room)) (c.len.ensures.len ∙ sym (len_row g.met.K.Ord.total c.args.rows.now c.len.ensures.ordered))
