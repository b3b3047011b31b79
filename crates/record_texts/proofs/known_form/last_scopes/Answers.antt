use Rattle.std.proofs.Common.{◌≡◌, ◌++◌, List, codes, sym, subst, rules}
use Rattle.std.specs.List.{AllByRecursion}
use Rattle.serde_json.specs.Written.{compact_text}
use Rattle.scope_filters.specs.Scopes.{scope_text}
use Rattle.scope_filters.specs.declared.scope.RawScope.{RawScope}
use Rattle.key_texts.specs.KeyTexts.{IsScope}
use Rattle.record_texts.specs.Fields.{lines}
use Rattle.record_texts.proofs.Cuts.{list_ends}
use Rattle.record_texts.proofs.known_form.last_scopes.Goals as goal

pub returns : goal.returns
returns c =
    let all = c.scopes.invariant in
    let end : c.scopes.rest.now ≡ codes "]}" = search rules in
    subst (λ (xs : List RawScope). (c.args.text.now ≡ compact_text (lines scope_text xs) ++ codes "}") × AllByRecursion IsScope xs) (sym c.from_vec.ensures)
    (list_ends c.args.text.now c.scopes.later c.scopes.scopes.items c.scopes.rest.now all.0 end, all.1)
