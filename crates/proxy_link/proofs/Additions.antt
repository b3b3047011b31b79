-- Bytes that are added to a text one after the other.
use Rattle.std.proofs.Common.{◌≡◌, ℕ, List, ◌++◌, Result, OnOk, ap, ◌∙◌, append_assoc, subst}
use Rattle.std.proofs.lemmas.Result.{on_ok_weaker}

-- two additions in a row
pub both : {T E : Type 0} (r : Result T E) (old between new a b : List ℕ)
    → between ≡ old ++ a → OnOk r (new ≡ between ++ b) → OnOk r (new ≡ old ++ (a ++ b))
both r old between new a b first second =
    on_ok_weaker r (λ h. h ∙ (ap (λ (t : List ℕ). t ++ b) first ∙ append_assoc old a b)) second

both_added : (old one two a b : List ℕ) → one ≡ old ++ a → two ≡ one ++ b → two ≡ old ++ (a ++ b)
both_added old one two a b first second = second ∙ (ap (λ (t : List ℕ). t ++ b) first ∙ append_assoc old a b)

-- four additions in a row
pub four : {T E : Type 0} (r : Result T E) (old one two three new a b c d : List ℕ)
    → one ≡ old ++ a → two ≡ one ++ b → three ≡ two ++ c → OnOk r (new ≡ three ++ d) → OnOk r (new ≡ old ++ (((a ++ b) ++ c) ++ d))
four r old one two three new a b c d first second third last =
    both r old three new ((a ++ b) ++ c) d (both_added old two three (a ++ b) c (both_added old one two a b first second) third) last

-- what is added is known by another name
pub renamed : {T E : Type 0} (r : Result T E) (old new a b : List ℕ) → a ≡ b → OnOk r (new ≡ old ++ a) → OnOk r (new ≡ old ++ b)
renamed r old new a b same is = subst (λ (x : List ℕ). OnOk r (new ≡ old ++ x)) same is
