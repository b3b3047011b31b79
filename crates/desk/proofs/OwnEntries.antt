-- Own entries with their places in a history.
use Rattle.std.proofs.Common.{◌≡◌, ◌≢◌, ◌⊎◌, inl, inr, ⊎_elim, ℕ, ◌+◌, ◌<◌, ◌≤◌, List, [], ◌∷◌, ◌++◌, length, refl, sym, ap, subst, ◌∙◌, arith, append_assoc, length-append, if◌then◌else◌}
use Rattle.std.proofs.lemmas.Bool.{lt-ltb, le-ltb, cases_lt}
use mathlib.Core.Logic.{dite}
use mathlib.Core.Option.{some, some-injective}
use mathlib.Core.List.{IsPrefix}
use native.Mathlib.Decide.{ℕ_discrete}
use lib.ListN.{get_elem?}
use Rattle.atomic_table.proofs.Lists.{at_longer, at_last}
use Rattle.desk.specs.OwnEntries.{placed, StandIn, Owns, RisesFrom, inserted, merged, Apart}
use Rattle.desk.proofs.Prefixes.{at_below}

module _ {E : Type 0} where
  pub stand_longer : (h t : List E) (ps : List (ℕ × E)) → StandIn h ps → StandIn (h ++ t) ps
  stand_longer h t [] s = tt
  stand_longer h t (p ∷ ps) s = (at_longer h t p.0 p.1 s.0, stand_longer h t ps s.1)

  pub stand_prefix : (h k : List E) (ps : List (ℕ × E)) → IsPrefix h k → StandIn h ps → StandIn k ps
  stand_prefix h k ps p s = subst (λ (l : List E). StandIn l ps) p.1 (stand_longer h p.0 ps s)

  pub stand_append : (h : List E) (ps qs : List (ℕ × E)) → StandIn h ps → StandIn h qs → StandIn h (ps ++ qs)
  stand_append h [] qs s t = t
  stand_append h (p ∷ ps) qs s t = (s.0, stand_append h ps qs s.1 t)

  pub stand_placed : (h xs : List E) (n : ℕ) → length h ≡ n → StandIn (h ++ xs) (placed n xs)
  stand_placed h [] n e = tt
  stand_placed h (x ∷ xs) n e = let again = append_assoc h (x ∷ []) xs in let long = length-append h (x ∷ []) in (
    subst (λ (l : List E). get_elem? l n ≡ some x) again (at_longer (h ++ x ∷ []) xs n x (at_last h x n e)),
    subst (λ (l : List E). StandIn l (placed (n + 1) xs)) again (stand_placed (h ++ x ∷ []) xs (n + 1) (omega arith)),
  )

  pub owns_below : (h : List E) (ps : List (ℕ × E)) (n : ℕ) → StandIn h ps → Owns n ps → n < length h
  owns_below h [] n s o = absurd o
  owns_below h (p ∷ ps) n s o = ⊎_elim (λ e. let lt = at_below h p.0 p.1 s.0 in let same : p.0 ≡ n = e in omega arith) (λ r. owns_below h ps n s.1 r) o

  pub owns_append : (ps qs : List (ℕ × E)) (n : ℕ) → Owns n (ps ++ qs) → Owns n ps ⊎ Owns n qs
  owns_append [] qs n o = inr o
  owns_append (p ∷ ps) qs n o = ⊎_elim (λ e. inl (inl e)) (λ r. ⊎_elim (λ a. inl (inr a)) (λ b. inr b) (owns_append ps qs n r)) o

  pub owns_left : (ps qs : List (ℕ × E)) (n : ℕ) → Owns n ps → Owns n (ps ++ qs)
  owns_left [] qs n o = absurd o
  owns_left (p ∷ ps) qs n o = ⊎_elim (λ e. inl e) (λ r. inr (owns_left ps qs n r)) o

  pub owns_right : (ps qs : List (ℕ × E)) (n : ℕ) → Owns n qs → Owns n (ps ++ qs)
  owns_right [] qs n o = o
  owns_right (p ∷ ps) qs n o = inr (owns_right ps qs n o)

  pub owns_each : (m : ℕ) (xs : List E) (n : ℕ) → m ≤ n → n < m + length xs → Owns n (placed m xs)
  owns_each m [] n le lt = absurd (omega arith)
  owns_each m (x ∷ xs) n le lt = dite (ℕ_discrete m n) (λ e. inl e) (λ ne. inr (owns_each (m + 1) xs n (omega arith) (omega arith)))

  pub owns_placed : (m : ℕ) (xs : List E) (n : ℕ) → Owns n (placed m xs) → m ≤ n
  owns_placed m [] n o = absurd o
  owns_placed m (x ∷ xs) n o = ⊎_elim (λ e. let same : m ≡ n = e in omega arith) (λ r. let le = owns_placed (m + 1) xs n r in omega arith) o

  rises_lower : (m k : ℕ) (ps : List (ℕ × E)) → m ≤ k → RisesFrom k ps → RisesFrom m ps
  rises_lower m k [] le r = tt
  rises_lower m k (p ∷ ps) le r = let a : k ≤ p.0 = r.0 in (omega arith, r.1)

  rises_above : (m : ℕ) (ps : List (ℕ × E)) (n : ℕ) → RisesFrom m ps → Owns n ps → m ≤ n
  rises_above m [] n r o = absurd o
  rises_above m (p ∷ ps) n r o = let a : m ≤ p.0 = r.0 in ⊎_elim (λ e. let same : p.0 ≡ n = e in omega arith) (λ q. let b = rises_above (p.0 + 1) ps n r.1 q in omega arith) o

  pub rises_append : (m k : ℕ) (ps qs : List (ℕ × E)) → m ≤ k → RisesFrom m ps → ((n : ℕ) → Owns n ps → n < k) → RisesFrom k qs → RisesFrom m (ps ++ qs)
  rises_append m k [] qs le r below q = rises_lower m k qs le q
  rises_append m k (p ∷ ps) qs le r below q = let lt : p.0 < k = below p.0 (inl refl) in (r.0, rises_append (p.0 + 1) k ps qs (omega arith) r.1 (λ n o. below n (inr o)) q)

  pub rises_placed : (n : ℕ) (xs : List E) → RisesFrom n (placed n xs)
  rises_placed n [] = tt
  rises_placed n (x ∷ xs) = (omega arith, rises_placed (n + 1) xs)

  inserted_is : (p q : ℕ × E) (qs : List (ℕ × E)) (P : List (ℕ × E) → Type 0) → (p.0 < q.0 → P (p ∷ q ∷ qs)) → (q.0 ≤ p.0 → P (q ∷ inserted p qs)) → P (inserted p (q ∷ qs))
  inserted_is p q qs P f g = ⊎_elim
      (λ lt. subst (λ b. P (if b then p ∷ q ∷ qs else q ∷ inserted p qs)) (sym (lt-ltb p.0 q.0 lt)) (f lt))
      (λ le. subst (λ b. P (if b then p ∷ q ∷ qs else q ∷ inserted p qs)) (sym (le-ltb p.0 q.0 le)) (g le)) (cases_lt p.0 q.0)

  owns_inserted : (p : ℕ × E) (qs : List (ℕ × E)) (n : ℕ) → Owns n (inserted p qs) → (p.0 ≡ n) ⊎ Owns n qs
  owns_inserted p [] n o = o
  owns_inserted p (q ∷ qs) n o = inserted_is p q qs (λ l. Owns n l → (p.0 ≡ n) ⊎ Owns n (q ∷ qs)) (λ _ u. u)
      (λ _ u. ⊎_elim (λ e. inr (inl e)) (λ r. ⊎_elim (λ a. inl a) (λ b. inr (inr b)) (owns_inserted p qs n r)) u) o

  pub owns_merged : (ps qs : List (ℕ × E)) (n : ℕ) → Owns n (merged ps qs) → Owns n ps ⊎ Owns n qs
  owns_merged ps [] n o = inl o
  owns_merged ps (q ∷ qs) n o = ⊎_elim (λ e. inr (inl e)) (λ r. ⊎_elim (λ a. inl a) (λ b. inr (inr b)) (owns_merged ps qs n r)) (owns_inserted q (merged ps qs) n o)

  owns_here : (p : ℕ × E) (qs : List (ℕ × E)) (n : ℕ) → (p.0 ≡ n) ⊎ Owns n qs → Owns n (inserted p qs)
  owns_here p [] n o = o
  owns_here p (q ∷ qs) n o = inserted_is p q qs (λ l. Owns n l) (λ _. o)
      (λ _. ⊎_elim (λ e. inr (owns_here p qs n (inl e))) (λ r. ⊎_elim (λ a. inl a) (λ b. inr (owns_here p qs n (inr b))) r) o)

  -- what either owns both do together
  pub owns_both : (ps qs : List (ℕ × E)) (n : ℕ) → Owns n ps ⊎ Owns n qs → Owns n (merged ps qs)
  owns_both ps [] n o = ⊎_elim (λ a. a) (λ b. absurd b) o
  owns_both ps (q ∷ qs) n o = owns_here q (merged ps qs) n (⊎_elim (λ a. inr (owns_both ps qs n (inl a))) (λ r. ⊎_elim (λ e. inl e) (λ b. inr (owns_both ps qs n (inr b))) r) o)

  stand_inserted : (h : List E) (p : ℕ × E) (qs : List (ℕ × E)) → get_elem? h p.0 ≡ some p.1 → StandIn h qs → StandIn h (inserted p qs)
  stand_inserted h p [] e s = (e, tt)
  stand_inserted h p (q ∷ qs) e s = inserted_is p q qs (λ l. StandIn h l) (λ _. (e, s)) (λ _. (s.0, stand_inserted h p qs e s.1))

  pub stand_merged : (h : List E) (ps qs : List (ℕ × E)) → StandIn h ps → StandIn h qs → StandIn h (merged ps qs)
  stand_merged h ps [] s t = s
  stand_merged h ps (q ∷ qs) s t = stand_inserted h q (merged ps qs) t.0 (stand_merged h ps qs s t.1)

  rises_inserted : (m : ℕ) (p : ℕ × E) (qs : List (ℕ × E)) → m ≤ p.0 → RisesFrom m qs → (Owns p.0 qs → ⊥) → RisesFrom m (inserted p qs)
  rises_inserted m p [] le r none_has = (le, tt)
  rises_inserted m p (q ∷ qs) le r none_has = inserted_is p q qs (λ l. RisesFrom m l) (λ lt. (le, (omega arith, r.1)))
      (λ ge. let ne : q.0 ≢ p.0 = λ e. none_has (inl e) in (r.0, rises_inserted (q.0 + 1) p qs (omega arith) r.1 (λ o. none_has (inr o))))

  pub rises_merged : (m : ℕ) (ps qs : List (ℕ × E)) → RisesFrom m ps → RisesFrom m qs → Apart ps qs → RisesFrom m (merged ps qs)
  rises_merged m ps [] r t apart = r
  rises_merged m ps (q ∷ qs) r t apart = let le : m ≤ q.0 = t.0 in
      rises_inserted m q (merged ps qs) le (rises_merged m ps qs r (rises_lower m (q.0 + 1) qs (omega arith) t.1) (λ n a b. apart n a (inr b)))
      (λ o. ⊎_elim (λ a. apart q.0 a (inl refl)) (λ b. let up = rises_above (q.0 + 1) qs q.0 t.1 b in absurd (omega arith)) (owns_merged ps qs q.0 o))

  rest_placed : (h k t : List E) (n : ℕ) (ps : List (ℕ × E)) → k ++ t ≡ h → length k ≡ n → StandIn h ps → RisesFrom n ps → ((m : ℕ) → n ≤ m → m < length h → Owns m ps) → ps ≡ placed n t
  rest_placed h k [] n [] whole long s r all = refl
  rest_placed h k [] n (p ∷ ps) whole long s r all = let lt = at_below h p.0 p.1 s.0 in let sum = ap length (sym whole) ∙ length-append k [] in let le : n ≤ p.0 = r.0 in absurd (omega arith)
  rest_placed h k (x ∷ xs) n [] whole long s r all = let sum = ap length (sym whole) ∙ length-append k (x ∷ xs) in absurd (all n (omega arith) (omega arith))
  rest_placed h k (x ∷ xs) n (p ∷ ps) whole long s r all =
      let sum = ap length (sym whole) ∙ length-append k (x ∷ xs) in let le : n ≤ p.0 = r.0 in
      let again : (k ++ x ∷ []) ++ xs ≡ h = append_assoc k (x ∷ []) xs ∙ whole in
      let place : p.0 ≡ n = ⊎_elim (λ e. e) (λ o. let up = rises_above (p.0 + 1) ps n r.1 o in absurd (omega arith)) (all n (omega arith) (omega arith)) in
      let at : get_elem? h n ≡ some x = subst (λ (l : List E). get_elem? l n ≡ some x) again (at_longer (k ++ x ∷ []) xs n x (at_last k x n long)) in
      let entry : p.1 ≡ x = some-injective p.1 x (sym s.0 ∙ (ap (λ i. get_elem? h i) place ∙ at)) in
      let rest = rest_placed h (k ++ x ∷ []) xs (n + 1) ps again (length-append k (x ∷ []) ∙ (omega arith)) s.1 (subst (λ (i : ℕ). RisesFrom (i + 1) ps) place r.1)
      (λ m lo hi. ⊎_elim (λ e. let same : p.0 ≡ m = e in absurd (omega arith)) (λ o. o) (all m (omega arith) hi)) in
      λ i. (place i, entry i) ∷ rest i

  -- own entries that leave no place out are all of the history
  pub all_placed : (h : List E) (ps : List (ℕ × E)) → StandIn h ps → RisesFrom 0 ps → ((n : ℕ) → n < length h → Owns n ps) → ps ≡ placed 0 h
  all_placed h ps s r all = rest_placed h [] h 0 ps refl refl s r (λ m _ lt. all m lt)
