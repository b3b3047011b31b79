use Rattle.std.proofs.Common.{Some, ◌∙◌, ap, sym}
use Rattle.clap.specs.Matches.{found_of}
use Rattle.clap.specs.Walk.{rows_of}
use Rattle.hub_words.specs.Session.{session_with}
use Rattle.hub_words.proofs.Both.{mapped, unmapped}
use Rattle.hub_words.proofs.session.SessionWordsCommandWords.of.Goals as goal

pub returns-in-Ok : goal.returns-in-Ok
returns-in-Ok c =
    let rows = rows_of (found_of c.args.matches.now) in
    let one = c.both.ensures _ _ c.needed.ensures c.needed-2.ensures in
    let places = c.both-2.ensures _ _ c.optional.ensures c.optional-2.ensures in
    let said = c.both-values.ensures _ _ one (c.both-3.ensures _ _ c.needed-3.ensures places) in
    mapped (session_with rows) _ _ _ said c.in-Ok.is ∙ ap Some (sym c.session_with.ensures)

pub returns-in-Err : goal.returns-in-Err
returns-in-Err c =
    let rows = rows_of (found_of c.args.matches.now) in
    let one = c.both.ensures _ _ c.needed.ensures c.needed-2.ensures in
    let places = c.both-2.ensures _ _ c.optional.ensures c.optional-2.ensures in
    let said = c.both-values.ensures _ _ one (c.both-3.ensures _ _ c.needed-3.ensures places) in
    unmapped (session_with rows) _ _ _ said c.in-Err.is
