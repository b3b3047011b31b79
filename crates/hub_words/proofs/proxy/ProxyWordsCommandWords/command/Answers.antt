use Rattle.hub_words.specs.Proxy.{proxy_app}
use Rattle.hub_words.proofs.proxy.ProxyWordsCommandWords.command.Goals as goal

pub returns : goal.returns
unfolding proxy_app
returns c =
    let s0 = c.begun-command.ensures in
    let s1 = c.needed_choice-command.ensures _ s0 in
    let s2 = c.needed_choice-command-2.ensures _ s1 in
    c.needed_choice.ensures _ s2
