use Rattle.hub_words.specs.Check.{check_app}
use Rattle.hub_words.proofs.check.CheckWordsCommandWords.command.Goals as goal

pub returns : goal.returns
unfolding check_app
returns c =
    let s0 = c.begun-command.ensures in
    let s1 = c.needed_choice-command.ensures _ s0 in
    c.choice.ensures _ s1
