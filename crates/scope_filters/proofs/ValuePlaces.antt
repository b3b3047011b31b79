-- The place of a bad byte of a value lies in the value, or at its end.
use Rattle.std.proofs.Common.{◌≡◌, ℕ, ◌+◌, ◌-◌, ◌<◌, ◌≤◌, ◌^◌, cond, ltb, List, [], ◌∷◌, length, take, drop, Option, Some, None, Result, Ok, Err, arith, subst, refl, length-take, length-drop}
use Rattle.std.proofs.lemmas.Bool.Decides.{nat_tests}
use Rattle.std.specs.List.{position_or_len}
use Rattle.hub_kit.specs.Names.{name_read, server_read}
use Rattle.hub_kit.specs.ServerKeys.{IsPlaceBelow, later, key_of, key_at, key_read}
use Rattle.hub_kit.proofs.Places.{server_in, further}
use Rattle.hub_kit.specs.declared.names.NameError.{NameError}
use Rattle.hub_kit.specs.declared.names.NameError.TheVariants.{Empty, TooLong, BadByte, Memory}

pub name_in : (bs : List ℕ) (e : NameError) → name_read bs ≡ Err e → IsPlaceBelow (length bs + 1) e
name_in [] e h = let same : Empty ≡ e = cc in subst (IsPlaceBelow (length {A = ℕ} [] + 1)) same tt
name_in (b ∷ bs) e h = further (length (b ∷ bs)) _ e (omega arith) (server_in (b ∷ bs) e h)

later_in : (by most : ℕ) (e : NameError) → IsPlaceBelow most e → IsPlaceBelow (by + most) (later by e)
later_in by most (BadByte at) h = omega arith
later_in by most Empty h = tt
later_in by most TooLong h = tt
later_in by most Memory h = tt

same_error : {X : Type 0} (r : Result X NameError) {d e : NameError} → r ≡ Err d → r ≡ Err e → d ≡ e
same_error r h k = cc

-- a key is read in two parts, of which the second begins at a place
parts_in : (most by rest : ℕ) (user server : Result (List ℕ) NameError) (e : NameError) → by + rest ≤ most → ((d : NameError) → user ≡ Err d → IsPlaceBelow most d)
    → ((d : NameError) → server ≡ Err d → IsPlaceBelow rest d) → key_of user by server ≡ Err e → IsPlaceBelow most e
parts_in most by rest (Ok user) (Ok server) e le first second h = cc
parts_in most by rest (Ok user) (Err d) e le first second h = subst (IsPlaceBelow most) (same_error _ refl h) (further _ _ (later by d) le (later_in by rest d (second d refl)))
parts_in most by rest (Err d) server e le first second h = subst (IsPlaceBelow most) (same_error _ refl h) (first d refl)

at_in : (bs : List ℕ) (o : Option ℕ) (e : NameError) → ((p : ℕ) → o ≡ Some p → p < length bs) → key_at bs o ≡ Err e → IsPlaceBelow (length bs + 1) e
at_in bs None e inside h = subst (IsPlaceBelow (length bs + 1)) (same_error _ refl h) (omega arith)
at_in bs (Some p) e inside h =
    let p_in : p < length bs = inside p refl in
    parts_in (length bs + 1) (p + 1) (length (drop (p + 1) bs)) (name_read (take p bs)) (server_read (drop (p + 1) bs)) e (omega (arith, length-drop (p + 1) bs))
    (λ d k. further _ _ d (omega (arith, length-take p bs)) (name_in (take p bs) d k)) (λ d k. server_in (drop (p + 1) bs) d k) h

found : (n len : ℕ) (p : ℕ) → cond (ltb n len) (Some n) None ≡ Some p → p < len
found n len p h = grind (arith, nat_tests)

pub key_in : (bs : List ℕ) (e : NameError) → key_read bs ≡ Err e → IsPlaceBelow (length bs + 1) e
key_in bs e h = at_in bs _ e (λ p k. found (position_or_len _ bs) (length bs) p k) h

-- so its place in the whole text can be counted
pub countable : (at : ℕ) (bs : List ℕ) (e : NameError) → at + length bs < 2 ^ 64 → IsPlaceBelow (length bs + 1) e → IsPlaceBelow (2 ^ 64 - at) e
countable at bs e fits h = further _ _ e (omega arith) h
