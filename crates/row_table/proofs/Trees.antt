-- The rows of a tree, by what is in it.
use Rattle.std.proofs.Common.{◌≡◌, inl, inr, ℕ, ℤ, pos, false, List, [], ◌∷◌, Option, Some, None, refl, sym, ap, subst, ◌∙◌}
use Rattle.std.proofs.lemmas.Bool.{cases_Bool, both_ways}
use Rattle.keeper.specs.Rows.{AreSame, is_at, with_text}
use Rattle.sqlite.specs.Order.{Row, column}
use Rattle.sqlite.specs.declared.types.Value.{Value}
use Rattle.sqlite.specs.declared.types.Value.TheVariants.{Null, Int, Real, Text, Blob}
use Rattle.sqlite_rules.specs.Lists.{Has}
use Rattle.row_table.specs.Stored.{stored, is_under, text_in, rows_of, IsStored, IsRowTable}
use Rattle.row_table.proofs.Tests.{under_is, under_from, at_is, same_option}

abbrev pub AreStored : List Row → Type 0
AreStored tree = (row : Row) → Has tree row → IsStored row

abbrev pub ComeOnce : List Row → Type 0
ComeOnce tree = (a b : Row) → Has tree a → Has tree b → column a 1 ≡ column b 1 → column a 2 ≡ column b 2 → a ≡ b

-- there is a row with this text under the kind and key
abbrev pub Holds : List Row → ℕ → List ℕ → List ℕ → Type 0
Holds tree kind key text = (id : ℤ) × Has tree (stored id kind key text)

some_text : (v : Value) (text : List ℕ) → text_in v ≡ Some text → v ≡ Text text
some_text Null text h = absurd cc
some_text (Int n) text h = absurd cc
some_text (Real x) text h = absurd cc
some_text (Text t) text h = cc
some_text (Blob b) text h = absurd cc

module _ (kind : ℕ) (key text : List ℕ) where
  -- a stored row with these columns
  shaped : (row : Row) → (s : IsStored row) → column row 1 ≡ Int (pos kind) → column row 2 ≡ Text key → column row 3 ≡ Text text → row ≡ stored s.0 kind key text
  shaped row s p q r =
      let k : s.1 ≡ kind = let e = ap (λ x. column x 1) (sym s.4) ∙ p in cc in
      let n : s.2 ≡ key = let e = ap (λ x. column x 2) (sym s.4) ∙ q in cc in
      let t : s.3 ≡ text = let e = ap (λ x. column x 3) (sym s.4) ∙ r in cc in
      s.4 ∙ rw (k, n, t) refl

  pub held : (tree : List Row) → AreStored tree → rows_of tree kind key ≡ Some text → Holds tree kind key text
  held [] formed h = absurd cc
  held (row ∷ rows) formed h = elim (cases_Bool (is_under kind key row)) [
    | inl here ↦
        let under = under_is kind key row here in
        let is = some_text (column row 3) text (rw here at h) in
        let s = formed row (inl refl) in
        (s.0, inl (sym (shaped row s under.0 under.1 is)))
    | inr other ↦ let later = held rows (λ r there. formed r (inr there)) (rw other at h) in (later.0, inr later.1)
  ]

  pub found : (tree : List Row) → ComeOnce tree → Holds tree kind key text → rows_of tree kind key ≡ Some text
  found [] once h = absurd h.1
  found (row ∷ rows) once h = elim (cases_Bool (is_under kind key row)) [
    | inl here ↦
        let under = under_is kind key row here in
        let same : row ≡ stored h.0 kind key text = once row (stored h.0 kind key text) (inl refl) h.1 under.0 under.1 in
        rw here (ap (λ x. text_in (column x 3)) same)
    | inr other ↦ elim h.1 [
      | inl first ↦ absurd (both_ways _ other (under_from kind key row (ap (λ x. column x 1) (sym first)) (ap (λ x. column x 2) (sym first))))
      | inr later ↦ rw other (found rows (λ a b p q. once a b (inr p) (inr q)) (h.0, later))
    ]
  ]

module _ (kind : ℕ) (key : List ℕ) (old new : List Row) (before : IsRowTable old) (after : IsRowTable new) where
  -- what is under another kind and key is there as it was
  abbrev pub Spares : Type 0
  Spares = (k : ℕ) (t x : List ℕ) → is_at kind key k t ≡ false → (Holds new k t x → Holds old k t x) × (Holds old k t x → Holds new k t x)

  others : Spares → (k : ℕ) (t : List ℕ) → is_at kind key k t ≡ false → rows_of new k t ≡ rows_of old k t
  others spares k t apart = same_option (rows_of new k t) (rows_of old k t)
      (λ x h. found k t x old before.once ((spares k t x apart).0 (held k t x new after.formed h)))
      (λ x h. found k t x new after.once ((spares k t x apart).1 (held k t x old before.formed h)))

  pub changed : (text : Option (List ℕ)) → rows_of new kind key ≡ text → Spares → AreSame (rows_of new) (with_text kind key text (rows_of old))
  changed text here spares k t = elim (cases_Bool (is_at kind key k t)) [
    | inl at ↦ let is = at_is kind key k t at in rw (at) (subst (λ n. rows_of new n t ≡ text) is.0 (subst (λ s. rows_of new kind s ≡ text) is.1 here))
    | inr apart ↦ rw apart (others spares k t apart)
  ]

  pub gone : ((x : List ℕ) → Holds new kind key x → ⊥) → rows_of new kind key ≡ None
  gone none = same_option (rows_of new kind key) None (λ x h. absurd (none x (held kind key x new after.formed h))) (λ x h. absurd cc)
