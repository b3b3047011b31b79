use Rattle.std.proofs.Common.{Some, ◌∙◌, ap, sym}
use Rattle.clap.specs.Matches.{found_of}
use Rattle.clap.specs.Walk.{rows_of}
use Rattle.hub_words.specs.Guard.{guard_with}
use Rattle.hub_words.proofs.Both.{mapped, unmapped}
use Rattle.hub_words.proofs.guard.GuardWordsCommandWords.of.Goals as goal

pub returns-in-Ok : goal.returns-in-Ok
returns-in-Ok c =
    let rows = rows_of (found_of c.args.matches.now) in
    let server = c.both.ensures _ _ c.needed.ensures c.needed-2.ensures in
    let target = c.both-2.ensures _ _ c.needed-4.ensures c.optional.ensures in
    let said = c.both-values.ensures _ _ server (c.both-3.ensures _ _ c.needed-3.ensures target) in
    mapped (guard_with rows) _ _ _ said c.in-Ok.is ∙ ap Some (sym c.guard_with.ensures)

pub returns-in-Err : goal.returns-in-Err
returns-in-Err c =
    let rows = rows_of (found_of c.args.matches.now) in
    let server = c.both.ensures _ _ c.needed.ensures c.needed-2.ensures in
    let target = c.both-2.ensures _ _ c.needed-4.ensures c.optional.ensures in
    let said = c.both-values.ensures _ _ server (c.both-3.ensures _ _ c.needed-3.ensures target) in
    unmapped (guard_with rows) _ _ _ said c.in-Err.is
