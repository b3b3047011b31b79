use Rattle.std.proofs.Common.{sym, ap, ◌∙◌}
use Rattle.scope_names.specs.Actions.{action_read}
use Rattle.scope_names.proofs.Texts.{read_text, text_read}
use Rattle.scope_names.proofs.action.read_action.Goals as goal

pub returns-clause-inverse : goal.returns-clause-inverse
returns-clause-inverse c = λ a h. (λ k. read_text c.args.text.now a (sym c.read_any.ensures ∙ k), λ k. c.read_any.ensures ∙ ap action_read (sym k) ∙ text_read a h)
