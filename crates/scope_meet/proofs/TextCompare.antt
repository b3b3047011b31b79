-- The texts of filters, compared by parts.
use Rattle.std.proofs.Common.{◌≡◌, ℕ, ◌+◌, ◌≤◌, suc, zero, false, ltb, List, [], ◌∷◌, ◌++◌, length, take, Option, Some, None, Ok, Err, refl, sym, ap, subst, ◌∙◌, ◌⊎◌, inl, inr, arith, ⊎_elim, append_assoc}
use Rattle.std.specs.Prelude.{nat_eq}
use Rattle.std.specs.List.{slice_get}
use Rattle.std.proofs.lemmas.Bool.{cases_Bool}
use Rattle.std.proofs.lemmas.Bool.Decides.{nat_tests}
use Rattle.std.specs.Ordering.{nat_cmp, ordering_then}
use Rattle.std.specs.FinMap.{nat_cmp-IsAntisymmetric}
use Rattle.std.specs.declared.cmp.Ordering.{Ordering}
use Rattle.std.specs.declared.cmp.Ordering.TheVariants.{Less, Equal, Greater}
use Rattle.hub_kit.specs.KeyOrder.{name_cmp}
use Rattle.hub_kit.specs.Names.{is_letter_or_digit, is_name_byte, bad_from, first_bad, bad_byte, IsName}
use Rattle.hub_kit.specs.declared.names.NameError.TheVariants.{TooLong}
use Rattle.scope_filters.specs.declared.filter.Filter.{Filter}
use Rattle.scope_filters.specs.declared.filter.Filter.TheVariants as Fi
use Rattle.scope_meet.specs.FilterTexts.{text_cmp, kind_text, value_cmp, end_cmp}

-- by what they begin with, and then by what follows
pub by_parts : (f g : Filter) → ordering_then (name_cmp (kind_text f) (kind_text g)) (value_cmp f g) ≡ text_cmp f g
by_parts Fi.All Fi.All = refl
by_parts Fi.All (Fi.User w) = refl
by_parts Fi.All (Fi.Group w) = refl
by_parts Fi.All (Fi.Server w) = refl
by_parts Fi.All (Fi.Service w) = refl
by_parts Fi.All (Fi.OwnerOf w) = refl
by_parts (Fi.User u) Fi.All = refl
by_parts (Fi.User u) (Fi.User w) = refl
by_parts (Fi.User u) (Fi.Group w) = refl
by_parts (Fi.User u) (Fi.Server w) = refl
by_parts (Fi.User u) (Fi.Service w) = refl
by_parts (Fi.User u) (Fi.OwnerOf w) = refl
by_parts (Fi.Group u) Fi.All = refl
by_parts (Fi.Group u) (Fi.User w) = refl
by_parts (Fi.Group u) (Fi.Group w) = refl
by_parts (Fi.Group u) (Fi.Server w) = refl
by_parts (Fi.Group u) (Fi.Service w) = refl
by_parts (Fi.Group u) (Fi.OwnerOf w) = refl
by_parts (Fi.Server u) Fi.All = refl
by_parts (Fi.Server u) (Fi.User w) = refl
by_parts (Fi.Server u) (Fi.Group w) = refl
by_parts (Fi.Server u) (Fi.Server w) = refl
by_parts (Fi.Server u) (Fi.Service w) = refl
by_parts (Fi.Server u) (Fi.OwnerOf w) = refl
by_parts (Fi.Service u) Fi.All = refl
by_parts (Fi.Service u) (Fi.User w) = refl
by_parts (Fi.Service u) (Fi.Group w) = refl
by_parts (Fi.Service u) (Fi.Server w) = refl
by_parts (Fi.Service u) (Fi.Service w) = refl
by_parts (Fi.Service u) (Fi.OwnerOf w) = refl
by_parts (Fi.OwnerOf u) Fi.All = refl
by_parts (Fi.OwnerOf u) (Fi.User w) = refl
by_parts (Fi.OwnerOf u) (Fi.Group w) = refl
by_parts (Fi.OwnerOf u) (Fi.Server w) = refl
by_parts (Fi.OwnerOf u) (Fi.Service w) = refl
by_parts (Fi.OwnerOf u) (Fi.OwnerOf w) = refl

-- ---- no name has a slash

abbrev NoSlash : List ℕ → Type 0
NoSlash [] = Unit {0}
NoSlash (b ∷ bs) = (nat_eq b 47 ≡ false) × NoSlash bs

rest_slash : (at : ℕ) (bs : List ℕ) → bad_from at bs ≡ None → NoSlash bs
rest_slash at [] h = tt
rest_slash at (b ∷ bs) h =
    ⊎_elim
    (λ good. (grind (arith, nat_tests), rest_slash (at + 1) bs (rw good at h)))
    (λ bad. let here : Some at ≡ None = rw bad at h in cc)
    (cases_Bool (is_name_byte b))

first_slash : (bs : List ℕ) → first_bad bs ≡ None → NoSlash bs
first_slash [] h = tt
first_slash (b ∷ bs) h =
    ⊎_elim
    (λ good. (grind (arith, nat_tests), rest_slash 1 bs (rw good at h)))
    (λ bad. let here : Some 0 ≡ None = rw bad at h in cc)
    (cases_Bool (is_letter_or_digit b))

read_slash : (bs : List ℕ) (o : Option ℕ) → o ≡ first_bad bs → bad_byte bs o ≡ Ok bs → NoSlash bs
read_slash bs None same h = first_slash bs (sym same)
read_slash bs (Some at) same h = cc

pub no_slash : (bs : List ℕ) → IsName bs → NoSlash bs
no_slash [] h = tt
no_slash (b ∷ bs) h =
    ⊎_elim
    (λ long. let here : Err TooLong ≡ Ok (b ∷ bs) = rw long at h in cc)
    (λ short. read_slash (b ∷ bs) (first_bad (b ∷ bs)) refl (rw short at h))
    (cases_Bool (ltb 64 (length (b ∷ bs))))

-- ---- texts of servers

decided : (a b : ℕ) (r : Ordering) → nat_eq a b ≡ false → ordering_then (nat_cmp a b) r ≡ nat_cmp a b
decided a b r apart = by (nat_cmp a b) refl
  where
    by : (o : Ordering) → nat_cmp a b ≡ o → ordering_then (nat_cmp a b) r ≡ nat_cmp a b
    by Less e = ap (λ o. ordering_then o r) e ∙ sym e
    by Equal e = absurd (let same : a ≡ b = nat_cmp-IsAntisymmetric a b e in grind (arith, nat_tests))
    by Greater e = ap (λ o. ordering_then o r) e ∙ sym e

then_assoc : (a b c : Ordering) → ordering_then a (ordering_then b c) ≡ ordering_then (ordering_then a b) c
then_assoc Less b c = refl
then_assoc Equal b c = refl
then_assoc Greater b c = refl

turned_apart : (y : ℕ) → nat_eq y 47 ≡ false → nat_eq 47 y ≡ false
turned_apart y h = grind (arith, nat_tests)

-- n bytes of both users, of which one has no more
pub cut : (n : ℕ) (u w s t : List ℕ) → NoSlash u → NoSlash w → n ≤ length u → n ≤ length w → ((n ≡ length u) ⊎ (n ≡ length w))
    → ordering_then (name_cmp (take n u) (take n w)) (end_cmp (slice_get u n) (slice_get w n) s t) ≡ name_cmp (u ++ 47 ∷ s) (w ++ 47 ∷ t)
cut zero [] [] s t p q a b e = refl
cut zero [] (y ∷ w) s t p q a b e = sym (decided 47 y (name_cmp s (w ++ 47 ∷ t)) (turned_apart y q.0))
cut zero (x ∷ u) [] s t p q a b e = sym (decided x 47 (name_cmp (u ++ 47 ∷ s) t) p.0)
cut zero (x ∷ u) (y ∷ w) s t p q a b (inl e) = absurd (omega (arith, e))
cut zero (x ∷ u) (y ∷ w) s t p q a b (inr e) = absurd (omega (arith, e))
cut (suc n) [] w s t p q a b e = absurd (omega (arith, a))
cut (suc n) (x ∷ u) [] s t p q a b e = absurd (omega (arith, b))
cut (suc n) (x ∷ u) (y ∷ w) s t p q a b (inl e) =
    sym (then_assoc (nat_cmp x y) (name_cmp (take n u) (take n w)) (end_cmp (slice_get u n) (slice_get w n) s t)) ∙ ap (ordering_then (nat_cmp x y)) (cut n u w s t p.1 q.1 (omega (arith, a)) (omega (arith, b)) (inl (omega (arith, e))))
cut (suc n) (x ∷ u) (y ∷ w) s t p q a b (inr e) =
    sym (then_assoc (nat_cmp x y) (name_cmp (take n u) (take n w)) (end_cmp (slice_get u n) (slice_get w n) s t)) ∙ ap (ordering_then (nat_cmp x y)) (cut n u w s t p.1 q.1 (omega (arith, a)) (omega (arith, b)) (inr (omega (arith, e))))

-- ---- the same, as the code has it

pub compared : (f g : Filter) (k l : List ℕ) (o v r : Ordering) → k ≡ kind_text f → l ≡ kind_text g → o ≡ name_cmp k l → v ≡ value_cmp f g → r ≡ ordering_then o v → r ≡ text_cmp f g
compared f g k l o v r ek el eo ev er =
    er ∙ ap (λ o. ordering_then o v) (eo ∙ ap (λ k. name_cmp k l) ek ∙ ap (name_cmp (kind_text f)) el)
    ∙ ap (ordering_then (name_cmp (kind_text f) (kind_text g))) ev ∙ by_parts f g

pub keys_compared : (u w s t first second : List ℕ) (n : ℕ) (o e r : Ordering) → IsName u → IsName w → first ≡ u → second ≡ w
    → n ≤ length first → n ≤ length second → ((n ≡ length first) ⊎ (n ≡ length second))
    → o ≡ name_cmp (take n first) (take n second) → e ≡ end_cmp (slice_get first n) (slice_get second n) s t → r ≡ ordering_then o e
    → r ≡ name_cmp ((u ++ 47 ∷ []) ++ s) ((w ++ 47 ∷ []) ++ t)
keys_compared u w s t first second n o e r iu iw eu ew in_first in_second whole eo ee er =
    er ∙ ap (λ o. ordering_then o e) eo ∙ ap (ordering_then (name_cmp (take n first) (take n second))) ee
    ∙ cut n first second s t (no_slash first (subst IsName (sym eu) iu)) (no_slash second (subst IsName (sym ew) iw)) in_first in_second whole
    ∙ ap (λ u. name_cmp (u ++ 47 ∷ s) (second ++ 47 ∷ t)) eu ∙ ap (λ w. name_cmp (u ++ 47 ∷ s) (w ++ 47 ∷ t)) ew
    ∙ ap (λ k. name_cmp k (w ++ 47 ∷ t)) (sym (append_assoc u (47 ∷ []) s)) ∙ ap (name_cmp ((u ++ 47 ∷ []) ++ s)) (sym (append_assoc w (47 ∷ []) t))
