-- The rows that pass a test, gone through one after the other: what is made of them, and what is true of each.
use Rattle.std.proofs.Common.{◌≡◌, ℕ, ◌+◌, ◌<◌, ◌≤◌, Bool, true, false, cond, List, [], ◌∷◌, ◌++◌, All, length, get_or, drop, map, sym, ◌∙◌, ap, subst, append_assoc}
use Rattle.std.specs.List.{filter}
use Rattle.std.proofs.lemmas.List.{drop_more, at_drop_all, append-nil}
use Rattle.std.proofs.lemmas.List.Elements.{All-cons, All-nil}

module _ {X : Type 0} (passes : X → Bool) (rows : List X) (i : ℕ) (row : X) where
  -- the rows from here on are this one, if it passes, and those after it
  from_here : i < length rows → row ≡ get_or rows i row → filter passes (drop i rows) ≡ cond (passes row) (row ∷ filter passes (drop (i + 1) rows)) (filter passes (drop (i + 1) rows))
  from_here within at = ap (filter passes) (drop_more rows i row within) ∙ ap (λ x. cond (passes x) (x ∷ filter passes (drop (i + 1) rows)) (filter passes (drop (i + 1) rows))) (sym at)

  with_this : (b : Bool) → b ≡ true → cond b (row ∷ filter passes (drop (i + 1) rows)) (filter passes (drop (i + 1) rows)) ≡ row ∷ filter passes (drop (i + 1) rows)
  with_this b e = ap (λ b. cond b (row ∷ filter passes (drop (i + 1) rows)) (filter passes (drop (i + 1) rows))) e

  without_this : (b : Bool) → b ≡ false → cond b (row ∷ filter passes (drop (i + 1) rows)) (filter passes (drop (i + 1) rows)) ≡ filter passes (drop (i + 1) rows)
  without_this b e = ap (λ b. cond b (row ∷ filter passes (drop (i + 1) rows)) (filter passes (drop (i + 1) rows))) e

  pub taken : i < length rows → row ≡ get_or rows i row → passes row ≡ true → filter passes (drop i rows) ≡ row ∷ filter passes (drop (i + 1) rows)
  taken within at e = from_here within at ∙ with_this (passes row) e

  pub left : i < length rows → row ≡ get_or rows i row → passes row ≡ false → filter passes (drop i rows) ≡ filter passes (drop (i + 1) rows)
  left within at e = from_here within at ∙ without_this (passes row) e

module _ {X Y : Type 0} (passes : X → Bool) (made : X → Y) (IsGood : X → Type 0) (rows : List X) (i : ℕ) (row : X) where
  pub made_taken : i < length rows → row ≡ get_or rows i row → passes row ≡ true → (before after whole : List Y) → before ++ map made (filter passes (drop i rows)) ≡ whole → after ≡ before ++ made row ∷ []
      → after ++ map made (filter passes (drop (i + 1) rows)) ≡ whole
  made_taken within at e before after whole h more =
      ap (λ ys. ys ++ map made (filter passes (drop (i + 1) rows))) more ∙ append_assoc before (made row ∷ []) (map made (filter passes (drop (i + 1) rows)))
      ∙ ap (λ xs. before ++ map made xs) (sym (taken passes rows i row within at e)) ∙ h

  pub made_left : i < length rows → row ≡ get_or rows i row → passes row ≡ false → (before after whole : List Y) → before ++ map made (filter passes (drop i rows)) ≡ whole → after ≡ before
      → after ++ map made (filter passes (drop (i + 1) rows)) ≡ whole
  made_left within at e before after whole h same = ap (λ ys. ys ++ map made (filter passes (drop (i + 1) rows))) same ∙ ap (λ xs. before ++ map made xs) (sym (left passes rows i row within at e)) ∙ h

  pub good_taken : i < length rows → row ≡ get_or rows i row → passes row ≡ true → (All IsGood (filter passes (drop i rows)) → All IsGood (filter passes rows)) → IsGood row
      → All IsGood (filter passes (drop (i + 1) rows)) → All IsGood (filter passes rows)
  good_taken within at e h good rest = h (subst (All IsGood) (sym (taken passes rows i row within at e)) (All-cons IsGood row (filter passes (drop (i + 1) rows)) good rest))

  pub good_left : i < length rows → row ≡ get_or rows i row → passes row ≡ false → (All IsGood (filter passes (drop i rows)) → All IsGood (filter passes rows))
      → All IsGood (filter passes (drop (i + 1) rows)) → All IsGood (filter passes rows)
  good_left within at e h rest = h (subst (All IsGood) (sym (left passes rows i row within at e)) rest)

-- all have been gone through
module _ {X Y : Type 0} (passes : X → Bool) (made : X → Y) (IsGood : X → Type 0) (rows : List X) (i : ℕ) (over : length rows ≤ i) where
  pub made_all : (now whole : List Y) → now ++ map made (filter passes (drop i rows)) ≡ whole → now ≡ whole
  made_all now whole h = sym (append-nil now) ∙ sym (at_drop_all (λ xs. now ++ map made (filter passes xs)) rows i over) ∙ h

  pub good_all : (All IsGood (filter passes (drop i rows)) → All IsGood (filter passes rows)) → All IsGood (filter passes rows)
  good_all h = h (subst (All IsGood) (sym (at_drop_all (filter passes) rows i over)) (All-nil IsGood))
