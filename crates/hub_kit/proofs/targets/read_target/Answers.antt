use Rattle.std.proofs.Common.{◌≡◌, true, None, Some, ap, sym, ◌∙◌, rules}
use Rattle.url.specs.Parser.{parse_url}
use Rattle.hub_kit.specs.Targets.{is_a_target}
use Rattle.hub_kit.proofs.TargetLemmas.{no_text, target_of_parsed}
use Rattle.hub_kit.proofs.targets.read_target.Goals as goal

pub returns-in-Err-clause-err : goal.returns-in-Err-clause-err
returns-in-Err-clause-err c = λ _. no_text c.args.bytes.now c.in-Err.ensures.cases.0

pub returns-in-Ok-target_of_url-clause-ok : goal.returns-in-Ok-target_of_url-clause-ok
returns-in-Ok-target_of_url-clause-ok c =
    let parsed = ap (parse_url None) (sym c.in-Ok.ensures.cases.0) ∙ c.in-Ok-parse.ensures in
    let fits : is_a_target c.in-Ok-parse.url ≡ true = search rules in
    target_of_parsed c.args.bytes.now c.in-Ok-parse.url c.in-Ok.ensures.cases.1 parsed fits ∙ ap Some (sym c.in-Ok-target_of_url.ensures)
