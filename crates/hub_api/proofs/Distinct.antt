-- Whether the name at a place stands behind it again.
use Rattle.std.proofs.Common.{◌≡◌, ℕ, suc, ◌+◌, ◌<◌, Bool, true, false, not, ◌&&◌, List, ◌∷◌, length, drop, get_or, ap, sym, ◌∙◌, add-one, drop-cons, bytes_eq}
use Rattle.std.specs.List.{list_any}
use Rattle.hub_api.specs.Bodies.{are_distinct}

from_name : (names : List (List ℕ)) (i : ℕ) (name : List ℕ) → i < length names → name ≡ get_or names i name
    → are_distinct (drop i names) ≡ are_distinct (name ∷ drop (i + 1) names)
from_name names i name below is =
    ap are_distinct (drop-cons names i name below ∙ ap (λ (t : List ℕ). t ∷ drop (suc i) names) (sym is))
    ∙ ap (λ (k : ℕ). are_distinct (name ∷ drop k names)) (sym (add-one i))

-- it does
pub twice : (names : List (List ℕ)) (i : ℕ) (name : List ℕ) → i < length names → name ≡ get_or names i name
    → list_any (λ other. bytes_eq other name) (drop (i + 1) names) ≡ true → are_distinct (drop i names) ≡ false
twice names i name below is test =
    from_name names i name below is ∙ ap (λ (t : Bool). not t && are_distinct (drop (i + 1) names)) test

-- it doesn't
pub once : (names : List (List ℕ)) (i : ℕ) (name : List ℕ) → i < length names → name ≡ get_or names i name
    → list_any (λ other. bytes_eq other name) (drop (i + 1) names) ≡ false → are_distinct (drop i names) ≡ are_distinct (drop (i + 1) names)
once names i name below is test =
    from_name names i name below is ∙ ap (λ (t : Bool). not t && are_distinct (drop (i + 1) names)) test
