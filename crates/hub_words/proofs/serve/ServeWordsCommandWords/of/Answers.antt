use Rattle.clap.specs.Matches.{found_of}
use Rattle.clap.specs.Walk.{rows_of}
use Rattle.hub_words.specs.Serve.{serve_with}
use Rattle.hub_words.proofs.Both.{bound, unbound}
use Rattle.hub_words.proofs.serve.ServeWordsCommandWords.of.Goals as goal

pub returns-in-Ok : goal.returns-in-Ok
returns-in-Ok c =
    let rows = rows_of (found_of c.args.matches.now) in
    let texts = c.both.ensures _ _ c.needed.ensures c.optional.ensures in
    let numbers = c.both-2.ensures _ _ c.optional-2.ensures c.optional-3.ensures in
    bound (serve_with rows) _ _ _ _ (c.both-values.ensures _ _ texts numbers) c.in-Ok.is c.serve_with.ensures

pub returns-in-Err : goal.returns-in-Err
returns-in-Err c =
    let rows = rows_of (found_of c.args.matches.now) in
    let texts = c.both.ensures _ _ c.needed.ensures c.optional.ensures in
    let numbers = c.both-2.ensures _ _ c.optional-2.ensures c.optional-3.ensures in
    unbound (serve_with rows) _ _ _ (c.both-values.ensures _ _ texts numbers) c.in-Err.is
