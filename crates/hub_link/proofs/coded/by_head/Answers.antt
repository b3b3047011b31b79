use Rattle.std.proofs.Common.{sym, ◌∙◌}
use Rattle.hub_link.proofs.CodedLemmas.{uncoded, coded, of_other, nothing_other}
use Rattle.hub_link.proofs.coded.by_head.Goals as goal

pub returns-in-Nothing : goal.returns-in-Nothing
returns-in-Nothing c = uncoded c.args.bytes.now c.args.spans.now c.args.r c.requires.head (sym c.in-Nothing.ensures)

pub returns-in-Other : goal.returns-in-Other
returns-in-Other c = (
  coded c.args.bytes.now c.args.spans.now c.args.r c.requires.within c.requires.head c.requires.room (λ none. nothing_other (sym none ∙ sym c.in-Other.ensures)),
  of_other c.args.bytes.now c.args.spans.now c.args.r c.requires.head (sym c.in-Other.ensures),
)
