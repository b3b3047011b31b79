use Rattle.std.proofs.Common.{◌∙◌, sym, arith}
use Rattle.std.proofs.lemmas.Bool.Decides.{nat_tests}
use Rattle.http_wire.proofs.WordLemmas.{words_last, words_cut}
use Rattle.http_wire.proofs.words.next_word.Goals as goal

pub returns-in-Some : goal.returns-in-Some
returns-in-Some c = words_cut c.args.bytes.now c.parts.rest.now c.in-Some.end c.parts.invariant c.in-Some.ensures.value c.in-Some.end-test.1

pub returns-in-None-2 : goal.returns-in-None-2
returns-in-None-2 c = sym c.parts.invariant ∙ words_last c.parts.rest.now (sym c.in-None-2.ensures.value) (grind (arith, nat_tests))
