-- A bad byte lies within the text that is read.
use Rattle.std.proofs.Common.{◌≡◌, ℕ, ◌+◌, ◌<◌, ◌≤◌, ltb, List, [], ◌∷◌, length, Some, None, Err, subst, refl, arith, ⊎_elim}
use Rattle.std.specs.Prelude.{Option}
use Rattle.std.proofs.lemmas.Bool.{cases_Bool}
use Rattle.hub_kit.specs.Names.{is_letter_or_digit, is_name_byte, bad_from, first_bad, bad_byte, server_read}
use Rattle.hub_kit.specs.ServerKeys.{IsPlaceBelow}
use Rattle.hub_kit.specs.declared.names.NameError.{NameError}
use Rattle.hub_kit.specs.declared.names.NameError.TheVariants.{Empty, TooLong, BadByte, Memory}

bad_in : (at : ℕ) (bs : List ℕ) (p : ℕ) → bad_from at bs ≡ Some p → p < at + length bs
bad_in at [] p h = cc
bad_in at (b ∷ bs) p h =
    ⊎_elim
    (λ yes. let inner = bad_in (at + 1) bs p (rw yes at h) in omega arith)
    (λ no. let here : Some at ≡ Some p = rw no at h in let same : at ≡ p = cc in omega arith)
    (cases_Bool (is_name_byte b))

first_in : (bs : List ℕ) (p : ℕ) → first_bad bs ≡ Some p → p < length bs
first_in [] p h = cc
first_in (b ∷ bs) p h =
    ⊎_elim
    (λ yes. let inner = bad_in 1 bs p (rw yes at h) in omega arith)
    (λ no. let here : Some 0 ≡ Some p = rw no at h in let same : 0 ≡ p = cc in omega arith)
    (cases_Bool (is_letter_or_digit b))

bad_byte_in : (bs : List ℕ) (o : Option ℕ) (e : NameError) → ((p : ℕ) → o ≡ Some p → p < length bs) → bad_byte bs o ≡ Err e → IsPlaceBelow (length bs) e
bad_byte_in bs None e inside h = cc
bad_byte_in bs (Some p) e inside h = let same : BadByte p ≡ e = cc in subst (IsPlaceBelow (length bs)) same (inside p refl)

pub server_in : (bs : List ℕ) (e : NameError) → server_read bs ≡ Err e → IsPlaceBelow (length bs) e
server_in [] e h = cc
server_in (b ∷ bs) e h =
    ⊎_elim
    (λ yes. let here : Err TooLong ≡ Err e = rw yes at h in let same : TooLong ≡ e = cc in subst (IsPlaceBelow (length (b ∷ bs))) same tt)
    (λ no. bad_byte_in (b ∷ bs) (first_bad (b ∷ bs)) e (first_in (b ∷ bs)) (rw no at h))
    (cases_Bool (ltb 64 (length (b ∷ bs))))

pub further : (m n : ℕ) (e : NameError) → m ≤ n → IsPlaceBelow m e → IsPlaceBelow n e
further m n (BadByte p) le h = omega arith
further m n Empty le h = tt
further m n TooLong le h = tt
further m n Memory le h = tt
