use Rattle.std.proofs.Common.{rules, ◌≡◌, ◌∙◌, true, ap, map}
use Rattle.clap.specs.Faults.{is_simple_and_free}
use Rattle.clap.specs.Simple.{is_simple}
use Rattle.hub_words.specs.Commands.{begins}
use Rattle.hub_words.proofs.Taken.{taken, refused}
use Rattle.hub_words.proofs.reading.read.Goals as goal

pub matches_in-requires-clause-free : goal.matches_in-requires-clause-free
matches_in-requires-clause-free g c = ap is_simple_and_free c.in-Ok-command.ensures ∙ c.requires.free

pub matches_in-requires-clause-simple : goal.matches_in-requires-clause-simple
matches_in-requires-clause-simple g c = ap is_simple c.in-Ok-command.ensures ∙ c.requires.simple

pub returns-in-Ok-matches_in : goal.returns-in-Ok-matches_in
returns-in-Ok-matches_in g c =
    let words = g.W.CommandWords in
    let first : begins c.args.name.now c.args.words.now ≡ true = search rules in
    let same : map (λ s. s.now) c.as_slice.result.now ≡ c.args.words.now = ap (map (λ s. s.now)) c.as_slice.ensures.value ∙ c.in-Ok.ensures in
    let known = c.in-Ok-matches_in.ensures in
    taken c.args.name.now words.app words.says c.args.words.now _ _ _ c.of_matches.result first c.in-Ok-command.ensures same known.taken known.rows (c.of_matches.ensures _ c.of.ensures)

pub returns : goal.returns
returns g c =
    let words = g.W.CommandWords in
    let first : begins c.args.name.now c.args.words.now ≡ true = search rules in
    let same : map (λ s. s.now) c.as_slice.result.now ≡ c.args.words.now = ap (map (λ s. s.now)) c.as_slice.ensures.value ∙ c.in-Ok.ensures in
    refused c.args.name.now words.app words.says c.args.words.now _ _ c.in-Err.error first c.in-Ok-command.ensures same c.in-Err.ensures.err
