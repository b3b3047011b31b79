-- A text that is cut at a byte.
use Rattle.std.proofs.Common.{◌≡◌, ℕ, ◌+◌, ◌<◌, ◌≤◌, Bool, true, false, not, ◌&&◌, ◌==◌, cond, ltb, List, [], ◌∷◌, ◌++◌, length, drop, Option, Some, None, refl, sym, ap, ◌∙◌, arith, ⊎_elim, length-append, append_assoc, take_at, drop_at}
use Rattle.std.specs.List.{list_all, position_or_len, after_first, position}
use Rattle.std.proofs.lemmas.Bool.{cases_Bool, eqb-true}
use Rattle.std.proofs.lemmas.Bool.Decides.{nat_tests}
use Rattle.std.proofs.lemmas.List.{take_all}
use Rattle.std.proofs.lemmas.List.Sums.{split_at_first}
use Rattle.std.proofs.lemmas.List.Quantifiers.{position-Some}
use Rattle.scope_filters.specs.Scopes.{before, after}

-- a text without the byte
abbrev pub is_without : ℕ → List ℕ → Bool
is_without byte text = list_all (λ b. not (b == byte)) text

pub first : (a b : Bool) → (a && b) ≡ true → a ≡ true
first true b h = refl
first false b h = cc

pub second : (a b : Bool) → (a && b) ≡ true → b ≡ true
second true b h = h
second false b h = cc

itself : (byte : ℕ) → not (byte == byte) ≡ false
itself byte = grind (arith, nat_tests)

more : (byte x n : ℕ) (xs : List ℕ) → not (x == byte) ≡ true → n ≡ length xs → cond (not (x == byte)) (1 + n) 0 ≡ length (x ∷ xs)
more byte x n xs h e = rw h (omega arith)

marked_at : (byte : ℕ) (xs ys : List ℕ) → is_without byte xs ≡ true → position_or_len (λ b. b == byte) (xs ++ byte ∷ ys) ≡ length xs
marked_at byte [] ys h = rw (itself byte) refl
marked_at byte (x ∷ xs) ys h = more byte x _ xs (first _ _ h) (marked_at byte xs ys (second _ _ h))

unmarked_at : (byte : ℕ) (xs : List ℕ) → is_without byte xs ≡ true → position_or_len (λ b. b == byte) xs ≡ length xs
unmarked_at byte [] h = refl
unmarked_at byte (x ∷ xs) h = more byte x _ xs (first _ _ h) (unmarked_at byte xs (second _ _ h))

pub before_marked : (byte : ℕ) (xs ys : List ℕ) → is_without byte xs ≡ true → before byte (xs ++ byte ∷ ys) ≡ xs
before_marked byte xs ys h = take_at xs (byte ∷ ys) _ (sym (marked_at byte xs ys h))

chosen : (n len : ℕ) (rest : List ℕ) → n < len → cond (ltb n len) (Some rest) None ≡ Some rest
chosen n len rest h = grind (arith, nat_tests)

not_chosen : (n len : ℕ) (rest : List ℕ) → len ≤ n → cond (ltb n len) (Some rest) None ≡ None
not_chosen n len rest h = grind (arith, nat_tests)

pub after_marked : (byte : ℕ) (xs ys : List ℕ) → is_without byte xs ≡ true → after byte (xs ++ byte ∷ ys) ≡ Some ys
after_marked byte xs ys h =
    let at = marked_at byte xs ys h in
    let end : length (xs ++ byte ∷ []) ≡ position_or_len (λ b. b == byte) (xs ++ byte ∷ ys) + 1 = omega (arith, length-append xs (byte ∷ []), at) in
    let back : after_first (λ b. b == byte) (xs ++ byte ∷ ys) ≡ ys = ap (drop (position_or_len (λ b. b == byte) (xs ++ byte ∷ ys) + 1)) (sym (append_assoc xs (byte ∷ []) ys)) ∙ drop_at (xs ++ byte ∷ []) ys _ end in
    chosen _ _ _ (omega (arith, length-append xs (byte ∷ ys), at)) ∙ ap Some back

pub before_unmarked : (byte : ℕ) (xs : List ℕ) → is_without byte xs ≡ true → before byte xs ≡ xs
before_unmarked byte xs h = take_all _ xs (omega (arith, unmarked_at byte xs h))

pub after_unmarked : (byte : ℕ) (xs : List ℕ) → is_without byte xs ≡ true → after byte xs ≡ None
after_unmarked byte xs h = not_chosen _ _ _ (omega (arith, unmarked_at byte xs h))

-- ---- a text is put together again

abbrev pub joined : ℕ → List ℕ → Option (List ℕ) → List ℕ
joined byte front None = front
joined byte front (Some rest) = front ++ byte ∷ rest

ends : (n len : ℕ) → ltb n len ≡ false → len ≤ n
ends n len h = grind (arith, nat_tests)

goes_on : (n len : ℕ) → ltb n len ≡ true → n < len
goes_on n len h = grind (arith, nat_tests)

pub join : (byte : ℕ) (text : List ℕ) → text ≡ joined byte (before byte text) (after byte text)
join byte text =
    let is : ℕ → Bool = λ b. b == byte in
    let n : ℕ = position_or_len is text in
    ⊎_elim
    (λ yes.
    let at : position is text ≡ Some n = rw yes refl in
    let whole : text ≡ before byte text ++ byte ∷ after_first is text =
    split_at_first is text 0 (goes_on n _ yes) ∙ ap (λ x. before byte text ++ x ∷ after_first is text) (eqb-true _ _ (position-Some is text n 0 at).1) in
    rw yes whole)
    (λ no. rw no (sym (take_all n text (ends n _ no))))
    (cases_Bool (ltb n (length text)))
