use Rattle.hub_words.specs.Session.{session_app}
use Rattle.hub_words.proofs.session.SessionWordsCommandWords.command.Goals as goal

pub returns : goal.returns
unfolding session_app
returns c =
    let s0 = c.begun-command.ensures in
    let s1 = c.positional-command.ensures _ s0 in
    let s2 = c.positional-command-2.ensures _ s1 in
    let s3 = c.positional-command-3.ensures _ s2 in
    let s4 = c.flag-command.ensures _ s3 in
    let s5 = c.choice-command.ensures _ s4 in
    let s6 = c.choice-command-2.ensures _ s5 in
    c.flag.ensures _ s6
