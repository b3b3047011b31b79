use Rattle.std.proofs.Common.{◌∙◌, ap, option_map, sym}
use Rattle.hub_words.proofs.Found.{needed_read}
use Rattle.hub_words.proofs.from_word.needed.Goals as goal

pub returns-in-Some : goal.returns-in-Some
returns-in-Some g c =
    let found = sym c.value_in.ensures ∙ ap (option_map (λ s. s.now)) c.in-Some.is in
    needed_read g.V.FromWord.reads c.args.id.now _ _ found c.of_argument.result (c.of_argument.ensures _ c.read.ensures)
