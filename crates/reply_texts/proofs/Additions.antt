-- Bytes that are added to a text one after the other.
use Rattle.std.proofs.Common.{◌≡◌, ℕ, List, ◌++◌, Result, OnOk, ap, ◌∙◌, append_assoc}
use Rattle.std.proofs.lemmas.Result.{on_ok_weaker}

-- two additions in a row
pub both : {T E : Type 0} (r : Result T E) (old between new a b : List ℕ)
    → between ≡ old ++ a → OnOk r (new ≡ between ++ b) → OnOk r (new ≡ old ++ (a ++ b))
both r old between new a b first second =
    on_ok_weaker r (λ h. h ∙ (ap (λ (t : List ℕ). t ++ b) first ∙ append_assoc old a b)) second
