use Rattle.hub_words.specs.Guard.{guard_app}
use Rattle.hub_words.proofs.guard.GuardWordsCommandWords.command.Goals as goal

pub returns : goal.returns
unfolding guard_app
returns c =
    let s0 = c.begun-command.ensures in
    let s1 = c.needed_choice-command.ensures _ s0 in
    let s2 = c.needed_choice-command-2.ensures _ s1 in
    let s3 = c.needed_choice-command-3.ensures _ s2 in
    let s4 = c.needed_choice-command-4.ensures _ s3 in
    let s5 = c.choice-command.ensures _ s4 in
    c.flag.ensures _ s5
