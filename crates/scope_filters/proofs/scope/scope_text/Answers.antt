use Rattle.std.proofs.Common.{◌≡◌, ◌++◌, Ok, sym, ap, ◌∙◌}
use Rattle.scope_names.specs.Actions.{text_of}
use Rattle.scope_filters.specs.Scopes.{filter_text, scope_text, scope_read}
use Rattle.scope_filters.specs.declared.scope.RawScope.TheVariants.{SelfScope, Inherit}
use Rattle.scope_filters.proofs.ScopeTexts.{scope_reads, scope_only, word_only}
use Rattle.scope_filters.proofs.scope.scope_text.Goals as goal

-- what was written
written : (c : goal.In_ok-push_filter-in-Plain) → c.push_filter.new.text ≡ text_of c.in-Plain.action ++ filter_text c.in-Plain.filter
written c = c.in_ok-push_filter-in-Plain.ensures.text ∙ ap (λ t. t ++ filter_text c.in-Plain.filter) (c.in_ok-text-in-Plain.ensures ∙ c.action_text.ensures.text)

pub returns-in_ok-push_filter-in-Plain-clause-reads : goal.returns-in_ok-push_filter-in-Plain-clause-reads
returns-in_ok-push_filter-in-Plain-clause-reads c =
    ap scope_read (written c) ∙ scope_reads c.in-Plain.action c.in-Plain.filter c.action_text.ensures.action c.push_filter.ensures.names ∙ ap Ok (sym c.in-Plain.is)

pub returns-in_ok-push_filter-in-Plain-clause-only : goal.returns-in_ok-push_filter-in-Plain-clause-only
returns-in_ok-push_filter-in-Plain-clause-only c = λ other h. scope_only c.args.scope.now other h ∙ ap scope_text c.in-Plain.is ∙ sym (written c)

pub returns-in-SelfScope-clause-only : goal.returns-in-SelfScope-clause-only
returns-in-SelfScope-clause-only c = word_only c.args.scope.now SelfScope _ c.in-SelfScope.is c.from_str-in-SelfScope.ensures

pub returns-in-Inherit-clause-only : goal.returns-in-Inherit-clause-only
returns-in-Inherit-clause-only c = word_only c.args.scope.now Inherit _ c.in-Inherit.is c.from_str-in-Inherit.ensures
