use Rattle.hub_words.specs.Cull.{cull_app}
use Rattle.hub_words.proofs.cull.CullWordsCommandWords.command.Goals as goal

pub returns : goal.returns
unfolding cull_app
returns c =
    let s0 = c.begun-command.ensures in
    let s1 = c.needed_choice-command.ensures _ s0 in
    let s2 = c.needed_choice-command-2.ensures _ s1 in
    let s3 = c.choice-command.ensures _ s2 in
    let s4 = c.choice-command-2.ensures _ s3 in
    let s5 = c.flag-command.ensures _ s4 in
    let s6 = c.flag-command-2.ensures _ s5 in
    let s7 = c.choice-command-3.ensures _ s6 in
    c.choice.ensures _ s7
