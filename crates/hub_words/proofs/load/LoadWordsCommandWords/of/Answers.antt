use Rattle.hub_words.specs.Load.{load_within}
use Rattle.hub_words.proofs.Both.{bound, unbound}
use Rattle.hub_words.proofs.load.LoadWordsCommandWords.of.Goals as goal

pub returns-in-Ok : goal.returns-in-Ok
returns-in-Ok c =
    bound load_within _ _ _ _ (c.both-values.ensures _ _ c.needed.ensures c.needed-2.ensures) c.in-Ok.is c.load_within.ensures

pub returns-in-Err : goal.returns-in-Err
returns-in-Err c =
    unbound load_within _ _ _ (c.both-values.ensures _ _ c.needed.ensures c.needed-2.ensures) c.in-Err.is
