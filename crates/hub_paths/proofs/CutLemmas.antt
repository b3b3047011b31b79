-- A text that is cut at its first slash, and the fit of what is in front of the cut and behind it.
use Rattle.std.proofs.Common.{◌≡◌, ℕ, ◌+◌, ◌-◌, ◌<◌, ◌≤◌, Bool, true, false, cond, List, [], ◌∷◌, length, take, drop, nat_lt, Some, None, refl, sym, ap, ◌∙◌, arith, position, ◌==◌, Option}
use Rattle.std.specs.Prelude.{MatchOption, is_some, not}
use Rattle.std.specs.List.{slice_split, onto_first, position_or_len}
use Rattle.std.specs.Cmp.Lexicographic.{pointwise}
use Rattle.std.proofs.lemmas.List.{take_rest}
use Rattle.std.proofs.lemmas.List.Splits.{slice_split_first, slice_split_none}
use Rattle.std.proofs.lemmas.List.Sums.{fails_before_first}
use Rattle.std.proofs.lemmas.Bool.{ltb-true, ltb-false}
use Rattle.hub_paths.specs.Paths.{segments, fits_part, fits}

abbrev is_slash : ℕ → Bool
is_slash b = b == 47

-- a position is below the length
place : (xs : List ℕ) (i : ℕ) → position is_slash xs ≡ Some i → (position_or_len is_slash xs ≡ i) × (i < length xs)
place xs i is =
    elim (nat_lt (position_or_len is_slash xs) (length xs)) as (λ b. nat_lt (position_or_len is_slash xs) (length xs) ≡ b → cond b (Some (position_or_len is_slash xs)) None ≡ Some i → (position_or_len is_slash xs ≡ i) × (i < length xs)) [
      | true ↦ λ below same.
          let e : position_or_len is_slash xs ≡ i = cc in
          (e, omega (arith, ltb-true (position_or_len is_slash xs) (length xs) below, e))
      | false ↦ λ below same. absurd (cc)
    ] refl is

no_place : (xs : List ℕ) → position is_slash xs ≡ None → length xs ≤ position_or_len is_slash xs
no_place xs is =
    elim (nat_lt (position_or_len is_slash xs) (length xs)) as (λ b. nat_lt (position_or_len is_slash xs) (length xs) ≡ b → cond b (Some (position_or_len is_slash xs)) None ≡ None → length xs ≤ position_or_len is_slash xs) [
      | true ↦ λ below same. absurd (cc)
      | false ↦ λ below same. ltb-false (position_or_len is_slash xs) (length xs) below
    ] refl is

-- the segment before the first slash, and the bytes behind it as the code takes them
pub segments_cut : (bytes : List ℕ) (i : ℕ) → Some i ≡ position (λ b. b == 47) bytes
    → segments bytes ≡ take i bytes ∷ segments (take (length bytes - (i + 1)) (drop (i + 1) bytes))
segments_cut bytes i is =
    let at = place bytes i (sym is) in
    let below : position_or_len is_slash bytes < length bytes = omega (arith, at.0, at.1) in
    slice_split_first is_slash bytes 0 below ∙ (ap (λ k. take k bytes ∷ segments (drop (k + 1) bytes)) at.0
    ∙ ap (λ rest. take i bytes ∷ segments rest) (sym (take_rest bytes (i + 1))))

-- one segment alone
pub segment_alone : (bytes : List ℕ) → None ≡ position (λ b. b == 47) bytes → segments bytes ≡ bytes ∷ []
segment_alone bytes is =
    slice_split_none is_slash bytes (λ k d below. fails_before_first is_slash bytes k d (omega (arith, below, no_place bytes (sym is))))

-- ---- parts and segments of which one is left

onto_first_not : (b : ℕ) (parts : List (List ℕ)) → (pointwise fits_part (onto_first b parts) [] ≡ false) × (pointwise fits_part [] (onto_first b parts) ≡ false)
onto_first_not b [] = (refl, refl)
onto_first_not b (part ∷ rest) = (refl, refl)

-- a text has a segment, so that none fits no part, and no part fits it
pub some_left : (bytes : List ℕ) → (pointwise fits_part (segments bytes) [] ≡ false) × (pointwise fits_part [] (segments bytes) ≡ false)
some_left [] = (refl, refl)
some_left (b ∷ bytes) = by (b == 47)
  where
    by : (v : Bool) → (pointwise fits_part (cond v ([] ∷ segments bytes) (onto_first b (segments bytes))) [] ≡ false)
        × (pointwise fits_part [] (cond v ([] ∷ segments bytes) (onto_first b (segments bytes))) ≡ false)
    by true = (refl, refl)
    by false = onto_first_not b (segments bytes)

-- the text ends before the path
pub text_ends : (parts text part segment rest : List ℕ) → segments parts ≡ part ∷ segments rest → segments text ≡ segment ∷ [] → fits_part part segment ≡ true
    → fits parts text ≡ false
text_ends parts text part segment rest p t is = rw (p, t, is) (some_left rest).0

-- the path ends: the text has to end too
pub path_ends : {R : Type 0} (now : R → List ℕ) (more : Option R) (parts text part segment : List ℕ) (r : Bool) → segments parts ≡ part ∷ []
    → MatchOption more (segments text ≡ segment ∷ []) (λ rest. segments text ≡ segment ∷ segments (now rest)) → fits_part part segment ≡ true
    → is_some more ≡ not r → r ≡ fits parts text
path_ends now None parts text part segment true p t is none = rw (p, t, is) refl
path_ends now (Some rest) parts text part segment false p t is none = rw (p, t, is) (sym (some_left (now rest)).1)
path_ends now None parts text part segment false p t is none = absurd (cc)
path_ends now (Some rest) parts text part segment true p t is none = absurd (cc)
