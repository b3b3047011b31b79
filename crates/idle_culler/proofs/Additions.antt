-- Bytes that are added to a text one after the other.
use Rattle.std.proofs.Common.{◌≡◌, ℕ, List, ◌++◌, Result, OnOk, ap, ◌∙◌, append_assoc, subst}
use Rattle.std.proofs.lemmas.Result.{on_ok_weaker}

-- two additions in a row
pub both : {T E : Type 0} (r : Result T E) (old between new a b : List ℕ)
    → between ≡ old ++ a → OnOk r (new ≡ between ++ b) → OnOk r (new ≡ old ++ (a ++ b))
both r old between new a b first second =
    on_ok_weaker r (λ h. h ∙ (ap (λ (t : List ℕ). t ++ b) first ∙ append_assoc old a b)) second

-- three additions in a row
pub three : {T E : Type 0} (r : Result T E) (old one two new a b c : List ℕ)
    → one ≡ old ++ a → two ≡ one ++ b → OnOk r (new ≡ two ++ c) → OnOk r (new ≡ old ++ ((a ++ b) ++ c))
three r old one two new a b c first second third =
    both r old two new (a ++ b) c (second ∙ (ap (λ (t : List ℕ). t ++ b) first ∙ append_assoc old a b)) third

pub path_is : {T E : Type 0} (r : Result T E) (old new a b : List ℕ) → a ≡ b → OnOk r (new ≡ old ++ a) → OnOk r (new ≡ old ++ b)
path_is r old new a b same is = subst (λ (x : List ℕ). OnOk r (new ≡ old ++ x)) same is
