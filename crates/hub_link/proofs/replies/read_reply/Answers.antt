use Rattle.std.proofs.Common.{sym}
use Rattle.std.proofs.lemmas.List.{take_rest}
use Rattle.hub_link.proofs.ReplyLemmas.{whole_reply, no_fit, fits_as}
use Rattle.hub_link.proofs.replies.read_reply.Goals as goal

pub returns-then-is_length-clause-some : goal.returns-then-is_length-clause-some
returns-then-is_length-clause-some c =
    let fit = rw take_rest at c.is_length.ensures in
    rw take_rest (whole_reply c.args.bytes.now c.find_front.new.spans c.in-Whole.r c.in-Whole.ensures.front.0 c.in-Whole.ensures.front.1 c.find_front.ensures.room
    (fits_as _ _ _ c.length_said.ensures (fit.0 c.if-is_length.true)))

pub returns-else-is_length-clause-none : goal.returns-else-is_length-clause-none
returns-else-is_length-clause-none c =
    let fit = rw take_rest at c.is_length.ensures in
    no_fit c.args.bytes.now c.find_front.new.spans c.in-Whole.r c.is_length.result c.in-Whole.ensures.front.1
    (λ fits. fit.1 (fits_as _ _ _ (sym c.length_said.ensures) fits)) c.if-is_length.false
