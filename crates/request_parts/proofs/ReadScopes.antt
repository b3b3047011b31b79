-- One scope more of a list of texts.
use Rattle.std.proofs.Common.{◌≡◌, ℕ, suc, ◌+◌, ◌<◌, List, [], ◌∷◌, ◌++◌, length, drop, get_or, Result, Ok, ap, sym, ◌∙◌, add-one, drop-cons}
use Rattle.scope_filters.specs.Scopes.{scope_read}
use Rattle.scope_filters.specs.declared.scope.RawScope.{RawScope}
use Rattle.request_parts.specs.Scopes.{at_place, scopes_from}
use Rattle.request_parts.specs.Steps.{◌>>=◌}
use Rattle.request_parts.specs.declared.scopes.ScopeFault.{ScopeFault}
use Rattle.request_parts.proofs.Fronts.{joined_ok, one_more_ok}

from_text : (i : ℕ) (texts : List (List ℕ)) (text : List ℕ) → i < length texts → text ≡ get_or texts i text
    → scopes_from i (drop i texts) ≡ scopes_from i (text ∷ drop (i + 1) texts)
from_text i texts text below is =
    ap (scopes_from i) (drop-cons texts i text below ∙ ap (λ (t : List ℕ). t ∷ drop (suc i) texts) (sym is))
    ∙ ap (λ (k : ℕ). scopes_from i (text ∷ drop k texts)) (sym (add-one i))

pub one_more : (front : List RawScope) (i : ℕ) (texts : List (List ℕ)) (text : List ℕ) (scope : RawScope)
    → i < length texts → text ≡ get_or texts i text → Ok scope ≡ at_place i (scope_read text)
    → joined_ok front (scopes_from i (drop i texts)) ≡ joined_ok (front ++ scope ∷ []) (scopes_from (i + 1) (drop (i + 1) texts))
one_more front i texts text scope below is read =
    ap (joined_ok front) (from_text i texts text below is)
    ∙ (ap (λ (r : Result RawScope ScopeFault). joined_ok front (r >>= (λ first. scopes_from (i + 1) (drop (i + 1) texts) >>= (λ others. Ok (first ∷ others))))) (sym read)
    ∙ one_more_ok front scope (scopes_from (i + 1) (drop (i + 1) texts)))
