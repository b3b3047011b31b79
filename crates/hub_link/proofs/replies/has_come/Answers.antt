use Rattle.std.proofs.Common.{sym, ◌∙◌}
use Rattle.std.proofs.lemmas.List.{take_rest}
use Rattle.hub_link.proofs.ReplyLemmas.{whole_by_length}
use Rattle.hub_link.proofs.replies.has_come.Goals as goal

pub returns-in-Whole : goal.returns-in-Whole
returns-in-Whole c = λ good.
    let said = rw take_rest at c.is_said.ensures in
    whole_by_length c.args.bytes.now c.find_front.new.spans c.in-Whole.r c.in-Whole.ensures.front.0 c.in-Whole.ensures.front.1 c.find_front.ensures.room
    (sym c.length_said-said.ensures ∙ said good)
