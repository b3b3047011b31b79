-- Keys that are picked from among those of more rows.
use Rattle.std.proofs.Common.{◌≡◌, Bool, true, false, cond, List, [], ◌∷◌, map, refl, sym, ap, ◌∙◌}
use Rattle.std.specs.List.{filter}

not_both : true ≡ false → ⊥
not_both h = cc

module _ {K X : Type 0} (key : X → K) (p : X → Bool) (q : K → Bool) (wider : (x : X) → q (key x) ≡ true → p x ≡ true) where
  -- where each row whose key is picked is among those rows, they are picked among all
  pub picked_of_all : (rows : List X) → filter q (map key (filter p rows)) ≡ map key (filter (λ x. q (key x)) rows)
  picked_of_all [] = refl
  picked_of_all (x ∷ rows) = by_tests (p x) (q (key x)) refl refl (picked_of_all rows)
    where
      by_tests : (a b : Bool) → p x ≡ a → q (key x) ≡ b → filter q (map key (filter p rows)) ≡ map key (filter (λ x. q (key x)) rows)
          → filter q (map key (cond a (x ∷ filter p rows) (filter p rows))) ≡ map key (cond b (x ∷ filter (λ x. q (key x)) rows) (filter (λ x. q (key x)) rows))
      by_tests true true pa qb h = ap (λ c. cond c (key x ∷ filter q (map key (filter p rows))) (filter q (map key (filter p rows)))) qb ∙ ap (λ ks. key x ∷ ks) h
      by_tests true false pa qb h = ap (λ c. cond c (key x ∷ filter q (map key (filter p rows))) (filter q (map key (filter p rows)))) qb ∙ h
      by_tests false true pa qb h = absurd (not_both (sym (wider x qb) ∙ pa))
      by_tests false false pa qb h = h
