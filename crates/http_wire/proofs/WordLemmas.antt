-- The first word of bytes.
use Rattle.std.proofs.Common.{◌≡◌, ℕ, ◌+◌, ◌-◌, ◌<◌, ◌≤◌, Bool, true, false, cond, List, [], ◌∷◌, length, take, drop, nat_lt, Some, None, refl, sym, ap, ◌∙◌, arith, position, ◌==◌}
use Rattle.std.specs.List.{slice_split, position_or_len, filter}
use Rattle.std.proofs.lemmas.List.{length-take-le, take_rest}
use Rattle.std.proofs.lemmas.List.Splits.{slice_split_first, slice_split_none}
use Rattle.std.proofs.lemmas.List.Sums.{fails_before_first}
use Rattle.std.proofs.lemmas.Bool.{lt-ltb, ltb-true, ltb-false}
use Rattle.http_wire.specs.Words.{is_blank, words, comma_parts}

abbrev some_part : List ℕ → Bool
some_part part = nat_lt 0 (length part)

-- a position is below the length
place : (p : ℕ → Bool) (xs : List ℕ) (i : ℕ) → position p xs ≡ Some i → (position_or_len p xs ≡ i) × (i < length xs)
place p xs i is =
    elim (nat_lt (position_or_len p xs) (length xs)) as (λ b. nat_lt (position_or_len p xs) (length xs) ≡ b → cond b (Some (position_or_len p xs)) None ≡ Some i → (position_or_len p xs ≡ i) × (i < length xs)) [
      | true ↦ λ below same.
          let e : position_or_len p xs ≡ i = cc in
          (e, omega (arith, ltb-true (position_or_len p xs) (length xs) below, e))
      | false ↦ λ below same. absurd (cc)
    ] refl is

no_place : (p : ℕ → Bool) (xs : List ℕ) → position p xs ≡ None → length xs ≤ position_or_len p xs
no_place p xs is =
    elim (nat_lt (position_or_len p xs) (length xs)) as (λ b. nat_lt (position_or_len p xs) (length xs) ≡ b → cond b (Some (position_or_len p xs)) None ≡ None → length xs ≤ position_or_len p xs) [
      | true ↦ λ below same. absurd (cc)
      | false ↦ λ below same. ltb-false (position_or_len p xs) (length xs) below
    ] refl is

-- what is split off at the first cut
pub split_at : (p : ℕ → Bool) (xs : List ℕ) (i : ℕ) → position p xs ≡ Some i → slice_split p xs ≡ take i xs ∷ slice_split p (drop (i + 1) xs)
split_at p xs i is =
    let at = place p xs i is in
    let below : position_or_len p xs < length xs = omega (arith, at.0, at.1) in
    slice_split_first p xs 0 below ∙ ap (λ k. take k xs ∷ slice_split p (drop (k + 1) xs)) at.0

pub split_nowhere : (p : ℕ → Bool) (xs : List ℕ) → position p xs ≡ None → slice_split p xs ≡ xs ∷ []
split_nowhere p xs is =
    slice_split_none p xs (λ k d below. fails_before_first p xs k d (omega (arith, below, no_place p xs is)))

-- a blank in front
pub words_skip : (xs : List ℕ) → position is_blank xs ≡ Some 0 → words xs ≡ words (drop 1 xs)
words_skip xs is = ap (filter some_part) (split_at is_blank xs 0 is)

some_word : (part : List ℕ) (parts : List (List ℕ)) → 0 < length part → filter some_part (part ∷ parts) ≡ part ∷ filter some_part parts
some_word part parts some =
    let yes : nat_lt 0 (length part) ≡ true = lt-ltb 0 (length part) some in
    ap (λ (b : Bool). cond b (part ∷ filter some_part parts) (filter some_part parts)) yes

-- a word, and a blank behind it
pub words_next : (xs : List ℕ) (i : ℕ) → position is_blank xs ≡ Some i → 0 < i → words xs ≡ take i xs ∷ words (drop (i + 1) xs)
words_next xs i is some =
    let at = place is_blank xs i is in
    ap (filter some_part) (split_at is_blank xs i is)
    ∙ some_word (take i xs) (slice_split is_blank (drop (i + 1) xs)) (omega (arith, length-take-le i xs (omega (arith, at.1)), some))

-- one word alone, or none
pub words_last : (xs : List ℕ) → position is_blank xs ≡ None → 0 < length xs → words xs ≡ xs ∷ []
words_last xs is some = ap (filter some_part) (split_nowhere is_blank xs is) ∙ some_word xs [] some

pub words_none : words [] ≡ []
words_none = refl

-- the bytes behind the word as the code takes them
pub words_cut : (bytes xs : List ℕ) (i : ℕ) → words xs ≡ words bytes → Some i ≡ position is_blank xs → (i ≡ 0 → ⊥)
    → words bytes ≡ take i xs ∷ words (take (length xs - (i + 1)) (drop (i + 1) xs))
words_cut bytes xs i same is some =
    sym same ∙ (words_next xs i (sym is) (omega (arith, some)) ∙ ap (λ rest. take i xs ∷ words rest) (sym (take_rest xs (i + 1))))

-- the parts between commas as the code takes them
pub parts_cut : (bytes : List ℕ) (i : ℕ) → Some i ≡ position (λ b. b == 44) bytes
    → comma_parts bytes ≡ take i bytes ∷ comma_parts (take (length bytes - (i + 1)) (drop (i + 1) bytes))
parts_cut bytes i is =
    split_at (λ b. b == 44) bytes i (sym is) ∙ ap (λ rest. take i bytes ∷ comma_parts rest) (sym (take_rest bytes (i + 1)))

pub part_alone : (bytes : List ℕ) → None ≡ position (λ b. b == 44) bytes → comma_parts bytes ≡ bytes ∷ []
part_alone bytes is = split_nowhere (λ b. b == 44) bytes (sym is)
