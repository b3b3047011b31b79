use Rattle.hub_words.specs.Load.{load_app}
use Rattle.hub_words.proofs.load.LoadWordsCommandWords.command.Goals as goal

pub returns : goal.returns
unfolding load_app
returns c =
    let s0 = c.begun-command.ensures in
    let s1 = c.positional-command.ensures _ s0 in
    c.positional.ensures _ s1
