-- Which seats are there.
use Rattle.std.proofs.Common.{◌≡◌, ◌≢◌, ⊎_elim, ℕ, zero, suc, ◌+◌, ◌≤◌, List, [], ◌∷◌, ◌++◌, set, refl, sym, ap, subst, ◌∙◌, arith}
use mathlib.Core.Logic.{dite}
use mathlib.Core.Option.{some, some-injective, some-ne-none}
use native.Mathlib.Decide.{ℕ_discrete}
use lib.ListN.{get_elem?}
use Rattle.atomic_table.proofs.Lists.{at_set, at_longer, set_here, set_else}
use Rattle.desk.specs.declared.turn.SeatView.{SeatView}
use Rattle.desk.specs.declared.turn.Stage.{Stage}
use Rattle.desk.specs.declared.turn.Stage.TheVariants.{Idle, Held, Met, Spent}
use Rattle.desk.specs.Seats.{spent}
use Rattle.desk.specs.Turns.{seat_there, there, OneIs, Keeps, AreApart}
use Rattle.desk.proofs.Prefixes.{at_below}

module _ {B E : Type 0} where
  pub there_one : (st : Stage B E) → st ≢ Spent → seat_there st ≡ 1
  there_one Idle f = refl
  there_one (Held b) f = refl
  there_one (Met ys qs) f = refl
  there_one Spent f = absurd (f refl)

module _ {B E A : Type 0} where
  pub there_set : (views : List (SeatView B E A)) (i : ℕ) (d w : SeatView B E A) → get_elem? views i ≡ some d → there (set views i w) + seat_there d.stage ≡ there views + seat_there w.stage
  there_set [] i d w e = absurd (some-ne-none d (sym e))
  there_set (x ∷ xs) zero d w e = let same : seat_there x.stage ≡ seat_there d.stage = ap (λ (z : SeatView B E A). seat_there z.stage) (some-injective x d e) in omega arith
  there_set (x ∷ xs) (suc i) d w e = let rest = there_set xs i d w e in omega arith

  pub there_snoc : (views : List (SeatView B E A)) (w : SeatView B E A) → there (views ++ w ∷ []) ≡ there views + seat_there w.stage
  there_snoc [] w = omega arith
  there_snoc (x ∷ xs) w = let rest = there_snoc xs w in omega arith

  there_has : (views : List (SeatView B E A)) (i : ℕ) (d : SeatView B E A) → get_elem? views i ≡ some d → seat_there d.stage ≤ there views
  there_has [] i d e = absurd (some-ne-none d (sym e))
  there_has (x ∷ xs) zero d e = let same : seat_there x.stage ≡ seat_there d.stage = ap (λ (z : SeatView B E A). seat_there z.stage) (some-injective x d e) in omega arith
  there_has (x ∷ xs) (suc i) d e = let rest = there_has xs i d e in omega arith

  there_two : (views : List (SeatView B E A)) (i j : ℕ) (d e : SeatView B E A) → get_elem? views i ≡ some d → get_elem? views j ≡ some e → d.stage ≢ Spent → e.stage ≢ Spent → j ≢ i → 2 ≤ there views
  there_two views i j d e at at_e live live_e ne = let a = there_set views i d spent at in let b = there_has (set views i spent) j e (set_else views i j spent ne ∙ at_e) in
      let one : seat_there d.stage ≡ 1 = there_one d.stage live in let one_e : seat_there e.stage ≡ 1 = there_one e.stage live_e in omega arith

  -- where one alone is there, what is true of one is true of it
  pub one_is_it : (views : List (SeatView B E A)) (i : ℕ) (d : SeatView B E A) (P : SeatView B E A → Type 0) → get_elem? views i ≡ some d → d.stage ≢ Spent → there views ≤ 1 → OneIs views P → P d
  one_is_it views i d P at live few one = dite (ℕ_discrete one.0 i)
      (λ same. subst P (some-injective one.1 d (sym one.2 ∙ (ap (λ k. get_elem? views k) same ∙ at))) one.4)
      (λ ne. let two = there_two views i one.0 d one.1 at one.2 live one.3 ne in absurd (omega arith))

  here : (views : List (SeatView B E A)) (i : ℕ) (d w : SeatView B E A) → get_elem? views i ≡ some d → get_elem? (set views i w) i ≡ some w
  here views i d w at = set_here views i w (at_below views i d at)

  pub one_here : (views : List (SeatView B E A)) (i : ℕ) (d w : SeatView B E A) (P : SeatView B E A → Type 0) → get_elem? views i ≡ some d → w.stage ≢ Spent → P w → OneIs (set views i w) P
  one_here views i d w P at live p = (i, w, here views i d w at, live, p)

  -- the one is another, or the one that changes
  pub one_changed : (views : List (SeatView B E A)) (i : ℕ) (d w : SeatView B E A) (P : SeatView B E A → Type 0) → get_elem? views i ≡ some d → w.stage ≢ Spent → (P d → P w) → OneIs views P → OneIs (set views i w) P
  one_changed views i d w P at live go one = dite (ℕ_discrete one.0 i)
      (λ same. one_here views i d w P at live (go (subst P (some-injective one.1 d (sym one.2 ∙ (ap (λ k. get_elem? views k) same ∙ at))) one.4)))
      (λ ne. (one.0, one.1, set_else views i one.0 w ne ∙ one.2, one.3, one.4))

  pub one_joined : (views : List (SeatView B E A)) (i j : ℕ) (d e w : SeatView B E A) (P : SeatView B E A → Type 0) → j ≢ i → get_elem? views i ≡ some d → get_elem? views j ≡ some e → w.stage ≢ Spent → (P d → P w) → (P e → P w)
      → OneIs views P → OneIs (set (set views j spent) i w) P
  one_joined views i j d e w P apart at at_e live go go_e one =
      let at_mid : get_elem? (set views j spent) i ≡ some d = set_else views j i spent (λ q. apart (sym q)) ∙ at in
      dite (ℕ_discrete one.0 j)
      (λ same. one_here (set views j spent) i d w P at_mid live (go_e (subst P (some-injective one.1 e (sym one.2 ∙ (ap (λ k. get_elem? views k) same ∙ at_e))) one.4)))
      (λ ne. one_changed (set views j spent) i d w P at_mid live go (one.0, one.1, set_else views j one.0 spent ne ∙ one.2, one.3, one.4))

  pub one_more_there : (views : List (SeatView B E A)) (w : SeatView B E A) (P : SeatView B E A → Type 0) → OneIs views P → OneIs (views ++ w ∷ []) P
  one_more_there views w P one = (one.0, one.1, at_longer views (w ∷ []) one.0 one.1 one.2, one.3, one.4)

  -- what is true of the new view, and of each other one, is true of each
  pub each_set : (P : ℕ → SeatView B E A → Type 0) (views : List (SeatView B E A)) (i : ℕ) (w : SeatView B E A) → P i w → ((j : ℕ) (e : SeatView B E A) → get_elem? views j ≡ some e → j ≢ i → P j e)
      → (j : ℕ) (e : SeatView B E A) → get_elem? (set views i w) j ≡ some e → P j e
  each_set P views i w own others j e p = ⊎_elim (λ t. subst (λ (z : SeatView B E A). P j z) t.1 (subst (λ (k : ℕ). P k w) (sym t.0) own)) (λ t. others j e t.1 t.0) (at_set views i j w e p)

  pub apart_set : (views : List (SeatView B E A)) (i : ℕ) (w : SeatView B E A) → AreApart views → ((j : ℕ) (e : SeatView B E A) → get_elem? views j ≡ some e → j ≢ i → (n : ℕ) → Keeps n w → Keeps n e → ⊥) → AreApart (set views i w)
  apart_set views id w were apart i j e f p q ne n a b = ⊎_elim
      (λ t. ⊎_elim (λ u. absurd (ne (t.0 ∙ sym u.0))) (λ u. apart j f u.1 u.0 n (subst (λ (z : SeatView B E A). Keeps n z) (sym t.1) a) b) (at_set views id j w f q))
      (λ t. ⊎_elim (λ u. apart i e t.1 t.0 n (subst (λ (z : SeatView B E A). Keeps n z) (sym u.1) b) a) (λ u. were i j e f t.1 u.1 ne n a b) (at_set views id j w f q))
      (at_set views id i w e p)
