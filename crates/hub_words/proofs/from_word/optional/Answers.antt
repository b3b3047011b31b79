use Rattle.std.proofs.Common.{◌∙◌, ap, option_map, sym}
use Rattle.hub_words.proofs.Found.{optional_read, optional_unread}
use Rattle.hub_words.proofs.from_word.optional.Goals as goal

pub returns-in-Ok : goal.returns-in-Ok
returns-in-Ok g c =
    let found = sym c.value_in.ensures ∙ ap (option_map (λ s. s.now)) c.in-Some.is in
    optional_read g.V.FromWord.reads c.args.id.now _ _ found c.of_argument.result c.in-Ok.read (c.of_argument.ensures _ c.read.ensures) c.in-Ok.is

pub returns-in-Err : goal.returns-in-Err
returns-in-Err g c =
    let found = sym c.value_in.ensures ∙ ap (option_map (λ s. s.now)) c.in-Some.is in
    optional_unread g.V.FromWord.reads c.args.id.now _ _ found c.of_argument.result c.in-Err.error (c.of_argument.ensures _ c.read.ensures) c.in-Err.is
