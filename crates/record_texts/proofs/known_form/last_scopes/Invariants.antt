use Rattle.std.proofs.Common.{length}
use Rattle.std.specs.List.{AllByRecursion}
use Rattle.key_texts.specs.KeyTexts.{IsScope}
use Rattle.record_texts.proofs.Cuts.{GoesOn}
use Rattle.record_texts.proofs.known_form.last_scopes.Given as goal

abbrev pub invariant-scopes : goal.invariant-scopes
invariant-scopes l = GoesOn l.fn.text l.later l.scopes.items l.rest × AllByRecursion IsScope l.scopes.items

abbrev pub decreases-scopes : goal.decreases-scopes
decreases-scopes l = length l.rest
