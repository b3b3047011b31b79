use Rattle.std.proofs.Common.{◌∷◌, length, take, drop, ◌+◌, ◌∙◌, sym, ap}
use Rattle.std.proofs.lemmas.List.{take_rest}
use Rattle.http_wire.proofs.WordLemmas.{split_at, split_nowhere}
use Rattle.proxy_wire.specs.Upgrades.{is_cut, words}
use Rattle.proxy_wire.proofs.upgrades.next_word.Goals as goal

pub returns-in-Some-clause-words : goal.returns-in-Some-clause-words
returns-in-Some-clause-words c =
    split_at is_cut c.args.bytes.now c.in-Some.end (sym c.in-Some.ensures.value)
    ∙ ap (λ rest. take c.in-Some.end c.args.bytes.now ∷ words rest) (sym (take_rest c.args.bytes.now (c.in-Some.end + 1)))

pub returns-in-None-clause-words : goal.returns-in-None-clause-words
returns-in-None-clause-words c = split_nowhere is_cut c.args.bytes.now (sym c.in-None.ensures.value)
