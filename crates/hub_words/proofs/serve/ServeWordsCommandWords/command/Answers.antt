use Rattle.hub_words.specs.Serve.{serve_app}
use Rattle.hub_words.proofs.serve.ServeWordsCommandWords.command.Goals as goal

pub returns : goal.returns
unfolding serve_app
returns c =
    let s0 = c.begun-command.ensures in
    let s1 = c.needed_choice-command.ensures _ s0 in
    let s2 = c.choice-command.ensures _ s1 in
    let s3 = c.flag-command.ensures _ s2 in
    let s4 = c.choice-command-2.ensures _ s3 in
    c.choice.ensures _ s4
