use Rattle.std.proofs.Common.{Some, ◌∙◌, ap, sym}
use Rattle.hub_words.specs.Proxy.{proxy_with}
use Rattle.hub_words.proofs.Both.{mapped, unmapped}
use Rattle.hub_words.proofs.proxy.ProxyWordsCommandWords.of.Goals as goal

pub returns-in-Ok : goal.returns-in-Ok
returns-in-Ok c =
    mapped proxy_with _ _ _ (c.both-values.ensures _ _ c.needed.ensures (c.both.ensures _ _ c.needed-2.ensures c.needed-3.ensures)) c.in-Ok.is ∙ ap Some (sym c.proxy_with.ensures)

pub returns-in-Err : goal.returns-in-Err
returns-in-Err c =
    unmapped proxy_with _ _ _ (c.both-values.ensures _ _ c.needed.ensures (c.both.ensures _ _ c.needed-2.ensures c.needed-3.ensures)) c.in-Err.is
