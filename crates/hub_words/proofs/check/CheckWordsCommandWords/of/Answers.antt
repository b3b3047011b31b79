use Rattle.std.proofs.Common.{Some, ◌∙◌, ap, sym}
use Rattle.hub_words.specs.Check.{check_with}
use Rattle.hub_words.proofs.Both.{mapped, unmapped}
use Rattle.hub_words.proofs.check.CheckWordsCommandWords.of.Goals as goal

pub returns-in-Ok : goal.returns-in-Ok
returns-in-Ok c =
    mapped check_with _ _ _ (c.both-values.ensures _ _ c.needed.ensures c.optional.ensures) c.in-Ok.is ∙ ap Some (sym c.check_with.ensures)

pub returns-in-Err : goal.returns-in-Err
returns-in-Err c =
    unmapped check_with _ _ _ (c.both-values.ensures _ _ c.needed.ensures c.optional.ensures) c.in-Err.is
