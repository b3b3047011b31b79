-- Beginnings of one list.
use Rattle.std.proofs.Common.{◌≡◌, inl, inr, ⊎_elim, ℕ, zero, suc, ◌<◌, ◌≤◌, Bool, true, false, ltb, List, [], ◌∷◌, ◌++◌, length, drop, refl, ap, sym, subst, ◌∙◌, arith, append_assoc, length-append, if◌then◌else◌}
use Rattle.std.proofs.lemmas.Bool.{ltb-true, ltb-false, cases_lt}
use mathlib.Core.Option.{some, some-injective, some-ne-none}
use mathlib.Core.List.{IsPrefix}
use lib.ListN.{get_elem?}
use Rattle.desk.specs.OwnEntries.{longer, Agree}

module _ {A : Type 0} where
  pub prefix_self : (xs : List A) → IsPrefix xs xs
  prefix_self [] = ([], refl)
  prefix_self (x ∷ xs) = (let r = prefix_self xs in r.0, ap (λ ys. x ∷ ys) (prefix_self xs).1)

  pub prefix_trans : (xs ys zs : List A) → IsPrefix xs ys → IsPrefix ys zs → IsPrefix xs zs
  prefix_trans xs ys zs p q = (p.0 ++ q.0, sym (append_assoc xs p.0 q.0) ∙ (ap (λ w. w ++ q.0) p.1 ∙ q.1))

  -- of two beginnings of one list the shorter begins the longer
  pub prefix_shorter : (xs ys zs : List A) → IsPrefix xs zs → IsPrefix ys zs → length xs ≤ length ys → IsPrefix xs ys
  prefix_shorter [] ys zs p q le = (ys, refl)
  prefix_shorter (x ∷ xs) [] zs p q le = absurd (omega arith)
  prefix_shorter (x ∷ xs) (y ∷ ys) [] p q le = absurd (cc (p.1))
  prefix_shorter (x ∷ xs) (y ∷ ys) (z ∷ zs) p q le =
      let heads : x ≡ y = cc (p.1, q.1) in
      let rest = prefix_shorter xs ys zs (p.0, cc (p.1)) (q.0, cc (q.1)) (omega arith) in
      (rest.0, cc (heads, rest.1))

  pub prefix_whole : (xs ys : List A) → IsPrefix xs ys → length ys ≤ length xs → xs ≡ ys
  prefix_whole [] [] p le = refl
  prefix_whole [] (y ∷ ys) p le = absurd (omega arith)
  prefix_whole (x ∷ xs) [] p le = absurd (cc (p.1))
  prefix_whole (x ∷ xs) (y ∷ ys) p le =
      let rest = prefix_whole xs ys (p.0, cc (p.1)) (omega arith) in cc (p.1, rest)

  pub prefix_length : (xs ys : List A) → IsPrefix xs ys → length xs ≤ length ys
  prefix_length xs ys p = omega (arith, sym (ap length p.1) ∙ length-append xs p.0)

  -- a list is a beginning of it and what is past that
  pub prefix_drop : (xs ys : List A) → IsPrefix xs ys → xs ++ drop (length xs) ys ≡ ys
  prefix_drop [] ys p = refl
  prefix_drop (x ∷ xs) [] p = absurd (cc (p.1))
  prefix_drop (x ∷ xs) (y ∷ ys) p = let rest = prefix_drop xs ys (p.0, cc (p.1)) in cc (p.1, rest)

  pub at_below : (xs : List A) (n : ℕ) (x : A) → get_elem? xs n ≡ some x → n < length xs
  at_below [] n x e = absurd (some-ne-none x (sym e))
  at_below (y ∷ ys) zero x e = omega arith
  at_below (y ∷ ys) (suc n) x e = let r = at_below ys n x e in omega arith

  pub at_one : (x : A) (j : ℕ) (d : A) → get_elem? (x ∷ []) j ≡ some d → (j ≡ 0) × (x ≡ d)
  at_one x zero d e = (refl, some-injective x d e)
  at_one x (suc j) d e = absurd (some-ne-none d (sym e))

  pub agrees : (xs ys zs : List A) → IsPrefix xs zs → IsPrefix ys zs → Agree xs ys
  agrees xs ys zs p q = ⊎_elim (λ lt. inl (prefix_shorter xs ys zs p q (omega arith))) (λ le. inr (prefix_shorter ys xs zs q p le)) (cases_lt (length xs) (length ys))

  pick : (b : Bool) (xs ys : List A) (P : List A → Type 0) → ltb (length xs) (length ys) ≡ b → (ltb (length xs) (length ys) ≡ true → P ys) → (ltb (length xs) (length ys) ≡ false → P xs) → P (if b then ys else xs)
  pick true xs ys P e f g = f e
  pick false xs ys P e f g = g e

  -- what is true of whichever is the longer
  pub longer_is : (xs ys : List A) (P : List A → Type 0) → (length xs < length ys → P ys) → (length ys ≤ length xs → P xs) → P (longer xs ys)
  longer_is xs ys P f g = pick (ltb (length xs) (length ys)) xs ys P refl (λ e. f (ltb-true (length xs) (length ys) e)) (λ e. g (ltb-false (length xs) (length ys) e))

  -- of two beginnings of one list the longer begins with both, and is a beginning itself
  pub longer_one : (xs ys zs : List A) → IsPrefix xs zs → IsPrefix ys zs → IsPrefix xs (longer xs ys) × IsPrefix ys (longer xs ys) × IsPrefix (longer xs ys) zs
  longer_one xs ys zs p q = longer_is xs ys (λ l. IsPrefix xs l × IsPrefix ys l × IsPrefix l zs)
      (λ lt. (prefix_shorter xs ys zs p q (omega arith), prefix_self ys, q))
      (λ le. (prefix_self xs, prefix_shorter ys xs zs q p le, p))

  pub agree_longer : (xs ys : List A) → Agree xs ys → IsPrefix xs (longer xs ys) × IsPrefix ys (longer xs ys)
  agree_longer xs ys a = ⊎_elim
      (λ p. longer_is xs ys (λ l. IsPrefix xs l × IsPrefix ys l) (λ _. (p, prefix_self ys)) (λ le. (prefix_self xs, subst (λ (l : List A). IsPrefix l xs) (prefix_whole xs ys p le) (prefix_self xs))))
      (λ q. longer_is xs ys (λ l. IsPrefix xs l × IsPrefix ys l) (λ lt. let le = prefix_length ys xs q in absurd (omega arith)) (λ _. (prefix_self xs, q))) a
