-- A walk over the keys of one owner, which stand together.
use Rattle.std.proofs.Common.{◌≡◌, Bool, true, false, ◌&&◌, cond, List, [], ◌∷◌, ◌++◌, refl, sym, ap, ◌∙◌, subst}
use Rattle.std.proofs.lemmas.List.{append-nil, append_assoc}
use Rattle.std.specs.declared.cmp.Ordering.{Ordering}
use Rattle.std.specs.declared.cmp.Ordering.TheVariants.{Less, Equal, Greater}
use Rattle.std.specs.declared.ops.Bound.TheVariants.{Included, Unbounded}
use Rattle.std.specs.Ordering.{is_eq, is_gt, is_le, is_ne, eq_by_cmp, ordering_reverse}
use Rattle.std.specs.Cmp.{IsTotalOrder, alike_right, tied_itself}
use Rattle.std.specs.FinMap.{IsAntisymmetric}
use Rattle.std.specs.List.{AllByRecursion, filter}
use Rattle.std.specs.List.Sorted.{IsStrictlySortedBy}
use Rattle.std.specs.Map.{keys_of}
use Rattle.std.specs.BTreeMap.{BTreeMap, IsOrdered}
use Rattle.std.specs.BTreeMap.Range.{range_contains, entries_between}

-- ---- lists

module _ {K X : Type 0} (p : K → Bool) where
  -- where a key isn't the owner's, none behind it is
  abbrev pub Ends : List (K × X) → Type 0
  Ends [] = Unit {0}
  Ends (e ∷ es) = (p e.0 ≡ false → filter p (keys_of es) ≡ []) × Ends es

  -- what was collected, and the owner's keys to come, are all
  pub record Walking (all : List K) (keys : List K) (rest : List (K × X)) : Type 0 where
    pub so_far : keys ++ filter p (keys_of rest) ≡ filter p all
    pub ends : Ends rest

  pub walked_on : (all ks ks' : List K) (left rest : List (K × X)) (e : K × X) → left ≡ e ∷ rest → p e.0 ≡ true → ks' ≡ ks ++ e.0 ∷ [] → Walking all ks left → Walking all ks' rest
  walked_on all ks ks' left rest e l own more w =
      let w' : Walking all ks (e ∷ rest) = subst (Walking all ks) l w in
      record {
        so_far = ap (λ xs. xs ++ filter p (keys_of rest)) more ∙ append_assoc ks (e.0 ∷ []) (filter p (keys_of rest)) ∙ ap (λ b. ks ++ cond b (e.0 ∷ filter p (keys_of rest)) (filter p (keys_of rest))) (sym own) ∙ w'.so_far;
        ends = w'.ends.1;
      }

  pub walked_out : (all ks : List K) (left rest : List (K × X)) (e : K × X) → left ≡ e ∷ rest → p e.0 ≡ false → Walking all ks left → ks ≡ filter p all
  walked_out all ks left rest e l other w =
      let w' : Walking all ks (e ∷ rest) = subst (Walking all ks) l w in
      sym (append-nil ks) ∙ ap (λ xs. ks ++ xs) (sym (w'.ends.0 other)) ∙ ap (λ b. ks ++ cond b (e.0 ∷ filter p (keys_of rest)) (filter p (keys_of rest))) (sym other) ∙ w'.so_far

  pub walked_through : (all ks : List K) (left : List (K × X)) → left ≡ [] → Walking all ks left → ks ≡ filter p all
  walked_through all ks left l w = sym (append-nil ks) ∙ ap (λ xs. ks ++ filter p (keys_of xs)) (sym l) ∙ w.so_far

  module _ (t : K → Bool) (outside : (k : K) → t k ≡ false → p k ≡ false) where
    -- the keys outside the range aren't the owner's
    skipped : (es : List (K × X)) → filter p (keys_of (filter (λ e. t e.0) es)) ≡ filter p (keys_of es)
    skipped [] = refl
    skipped (e ∷ es) = elim (t e.0) as (λ b. t e.0 ≡ b → filter p (keys_of (cond b (e ∷ filter (λ e. t e.0) es) (filter (λ e. t e.0) es))) ≡ filter p (keys_of (e ∷ es))) [
      | true ↦ λ h. ap (λ ks. cond (p e.0) (e.0 ∷ ks) ks) (skipped es)
      | false ↦ λ h. skipped es ∙ ap (λ b. cond b (e.0 ∷ filter p (keys_of es)) (filter p (keys_of es))) (sym (outside e.0 h))
    ] refl

    module _ (R : K → K → Ordering) (past : (a b : K) → t a ≡ true → p a ≡ false → R a b ≡ Less → p b ≡ false) where
      none_behind : (a : K) → t a ≡ true → p a ≡ false → (es : List (K × X)) → AllByRecursion (λ y. R a y ≡ Less) (keys_of es) → filter p (keys_of es) ≡ []
      none_behind a h o [] s = refl
      none_behind a h o (e ∷ es) s = ap (λ b. cond b (e.0 ∷ filter p (keys_of es)) (filter p (keys_of es))) (past a e.0 h o s.0) ∙ none_behind a h o es s.1

      ends_in_order : (es : List (K × X)) → IsStrictlySortedBy R (keys_of es) → Ends (filter (λ e. t e.0) es)
      unfolding IsStrictlySortedBy
      ends_in_order [] s = tt
      ends_in_order (e ∷ es) s = elim (t e.0) as (λ b. t e.0 ≡ b → Ends (cond b (e ∷ filter (λ e. t e.0) es) (filter (λ e. t e.0) es))) [
        | true ↦ λ h. (λ o. skipped es ∙ none_behind e.0 h o es s.0, ends_in_order es s.1)
        | false ↦ λ h. ends_in_order es s.1
      ] refl

      pub walk_begins : (es : List (K × X)) → IsStrictlySortedBy R (keys_of es) → Walking (keys_of es) [] (filter (λ e. t e.0) es)
      walk_begins es s = record { so_far = skipped es; ends = ends_in_order es s }

-- ---- keys of an owner

not_equal : (r : Ordering) → is_gt r ≡ false → is_eq (ordering_reverse r) ≡ false → r ≡ Less
not_equal Less g e = refl
not_equal Equal g e = cc
not_equal Greater g e = cc

reversed : (r : Ordering) → r ≡ Less → is_eq (ordering_reverse r) ≡ false
reversed Less h = refl
reversed Equal h = cc
reversed Greater h = cc

module _ {O K : Type 0} {Q : O → O → Ordering} {R : K → K → Ordering} (o : IsTotalOrder Q) (exact : IsAntisymmetric R) (owner_of : K → O)
    (together : (a b : K) → R a b ≡ Less → is_gt (Q (owner_of a) (owner_of b)) ≡ false) (w : O) (first : K) (own : owner_of first ≡ w) where
  abbrev is_own : K → Bool
  is_own k = eq_by_cmp Q (owner_of k) w

  abbrev in_range : K → Bool
  in_range k = range_contains R (Included first) Unbounded k

  not_before : (k : K) → in_range k ≡ true → is_gt (Q w (owner_of k)) ≡ false
  not_before k h = elim (R first k) as (λ r. R first k ≡ r → (is_le r && true) ≡ true → is_gt (Q w (owner_of k)) ≡ false) [
    | Less ↦ λ e h. ap (λ v. is_gt (Q v (owner_of k))) (sym own) ∙ together first k e
    | Equal ↦ λ e h. ap (λ v. is_gt (Q w v)) (ap owner_of (sym (exact first k e)) ∙ own) ∙ ap is_gt (tied_itself o w)
    | Greater ↦ λ e h. absurd (cc)
  ] refl h

  then_less : (a b c : O) → Q a b ≡ Less → is_gt (Q b c) ≡ false → Q a c ≡ Less
  then_less a b c h g = elim (Q b c) as (λ r. Q b c ≡ r → is_gt r ≡ false → Q a c ≡ Less) [
    | Less ↦ λ e g. o.trans a b c h e
    | Equal ↦ λ e g. sym (alike_right o b c a e) ∙ h
    | Greater ↦ λ e g. absurd (cc)
  ] refl g

  past_own : (a b : K) → in_range a ≡ true → is_own a ≡ false → R a b ≡ Less → is_own b ≡ false
  past_own a b h other less =
      let before = not_equal (Q w (owner_of a)) (not_before a h) (ap is_eq (sym (o.antisymm (owner_of a) w)) ∙ other) in
      ap is_eq (o.antisymm (owner_of b) w) ∙ reversed (Q w (owner_of b)) (then_less w (owner_of a) (owner_of b) before (together a b less))

  outside_range : (least : (k : K) → owner_of k ≡ w → is_gt (R first k) ≡ false) (exact_owners : IsAntisymmetric Q) (k : K) → in_range k ≡ false → is_own k ≡ false
  outside_range least exact_owners k h = elim (Q (owner_of k) w) as (λ r. Q (owner_of k) w ≡ r → is_eq r ≡ false) [
    | Less ↦ λ e. refl
    | Equal ↦ λ e. absurd (inside (R first k) (least k (exact_owners (owner_of k) w e)) h)
    | Greater ↦ λ e. refl
  ] refl
    where
      inside : (r : Ordering) → is_gt r ≡ false → (is_le r && true) ≡ false → ⊥
      inside Less g h = cc
      inside Equal g h = cc
      inside Greater g h = cc

  pub started : {X : Type 0} (least : (k : K) → owner_of k ≡ w → is_gt (R first k) ≡ false) (exact_owners : IsAntisymmetric Q) (m : BTreeMap K X) → IsOrdered R m
      → (ks : List K) (rest : List (K × X)) → ks ≡ [] → rest ≡ entries_between R (Included first) Unbounded m.entries → Walking is_own (keys_of m.entries) ks rest
  started least exact_owners m s ks rest e f =
      subst (λ xs. Walking is_own (keys_of m.entries) xs rest) (sym e) (subst (Walking is_own (keys_of m.entries) []) (sym f) (walk_begins is_own in_range (outside_range least exact_owners) R past_own m.entries s))

pub told_apart : (r : Ordering) → is_ne r ≡ true → is_eq r ≡ false
told_apart Less h = refl
told_apart Equal h = cc
told_apart Greater h = refl
