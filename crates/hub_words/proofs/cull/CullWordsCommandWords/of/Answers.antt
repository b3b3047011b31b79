use Rattle.std.proofs.Common.{Some, ◌∙◌, ap, sym}
use Rattle.clap.specs.Matches.{found_of}
use Rattle.clap.specs.Walk.{rows_of}
use Rattle.hub_words.specs.Cull.{cull_with}
use Rattle.hub_words.proofs.Both.{mapped, unmapped}
use Rattle.hub_words.proofs.cull.CullWordsCommandWords.of.Goals as goal

pub returns-in-Ok : goal.returns-in-Ok
returns-in-Ok c =
    let rows = rows_of (found_of c.args.matches.now) in
    mapped (cull_with rows) _ _ _ (c.both-values.ensures _ _ (c.both.ensures _ _ c.needed.ensures c.needed-2.ensures) (c.both-4.ensures _ _ (c.both-2.ensures _ _ c.optional.ensures c.optional-2.ensures) (c.both-3.ensures _ _ c.optional-3.ensures c.optional-4.ensures))) c.in-Ok.is ∙ ap Some (sym c.cull_with.ensures)

pub returns-in-Err : goal.returns-in-Err
returns-in-Err c =
    let rows = rows_of (found_of c.args.matches.now) in
    unmapped (cull_with rows) _ _ _ (c.both-values.ensures _ _ (c.both.ensures _ _ c.needed.ensures c.needed-2.ensures) (c.both-4.ensures _ _ (c.both-2.ensures _ _ c.optional.ensures c.optional-2.ensures) (c.both-3.ensures _ _ c.optional-3.ensures c.optional-4.ensures))) c.in-Err.is
