-- A row that a search among the values finds stands under a key.
use Rattle.std.proofs.Common.{◌≡◌, ℕ, Bool, true, false, ◌&&◌, cond, List, [], ◌∷◌, map, Option, refl, sym, ◌∙◌, ap, subst, T}
use Rattle.std.specs.Prelude.{Some, None}
use Rattle.std.specs.Cmp.{nat_cmp_total, tied_itself}
use Rattle.std.specs.List as scan
use Rattle.std.specs.Ordering.{nat_cmp, is_lt, is_eq, eq_by_cmp}
use Rattle.std.specs.FinMap.{FinMap, get, values, entries, entries_sorted, get-entries, nat_cmp-IsAntisymmetric}
use Rattle.std.specs.FinMap.Entries.{find, is_sorted, below_all}
use Rattle.std.specs.Borrow.{Bor}
use Rattle.std.specs.Option.{option_copied}
use Rattle.std.specs.Prelude.{IfSome}
use Rattle.hub_kit.specs.KeyOrder.{name_cmp}
use Rattle.hub_rows.specs.declared.records.Token.{Token}
use Rattle.hub_tables.specs.Hashes.{row_with}
use Rattle.keyed_rows.proofs.Finite.{tied}
use Rattle.keyed_rows.specs.Rows.{OwnKeys}

none_some : {X : Type 0} (x : X) → None ≡ Some x → ⊥
none_some x h = cc

first : (a b : Bool) → T (a && b) → T a
first true b p = tt
first false b p = p

second : (a b : Bool) → T (a && b) → T b
second true b p = p
second false b p = absurd p

not_true : (b : Bool) → (b ≡ true → ⊥) → b ≡ false
not_true true h = absurd (h refl)
not_true false h = refl

module _ {X : Type 0} where
  -- a key that stands among entries above x isn't x
  apart : (x q : ℕ) (es : List (ℕ × X)) (v : X) → T (below_all nat_cmp x es) → find nat_cmp q es ≡ Some v → eq_by_cmp nat_cmp q x ≡ false
  apart x q [] v s h = absurd (none_some v h)
  apart x q (e ∷ es) v s h = by_test (eq_by_cmp nat_cmp q e.0) refl h (apart x q es v (second (is_lt (nat_cmp x e.0)) (below_all nat_cmp x es) s))
    where
      by_test : (b : Bool) → eq_by_cmp nat_cmp q e.0 ≡ b → cond b (Some e.1) (find nat_cmp q es) ≡ Some v → (find nat_cmp q es ≡ Some v → eq_by_cmp nat_cmp q x ≡ false)
          → eq_by_cmp nat_cmp q x ≡ false
      by_test true eq h below = not_true (eq_by_cmp nat_cmp q x) (λ same.
          let a : q ≡ e.0 = nat_cmp-IsAntisymmetric q e.0 (tied (nat_cmp q e.0) eq) in
          let b : q ≡ x = nat_cmp-IsAntisymmetric q x (tied (nat_cmp q x) same) in
          subst T (ap (λ (y : ℕ). is_lt (nat_cmp x y)) (sym a ∙ b) ∙ ap is_lt (tied_itself nat_cmp_total x)) (first (is_lt (nat_cmp x e.0)) (below_all nat_cmp x es) s))
      by_test false eq h below = below h

  found : (es : List (ℕ × X)) → T (is_sorted nat_cmp es) → (p : X → Bool) (v : X) → scan.find p (map (λ e. e.1) es) ≡ Some v → (q : ℕ) × (find nat_cmp q es ≡ Some v)
  found [] s p v h = absurd (none_some v h)
  found (e ∷ es) s p v h = by_test (p e.1) h (found es (second (below_all nat_cmp e.0 es) (is_sorted nat_cmp es) s) p v)
    where
      by_test : (b : Bool) → cond b (Some e.1) (scan.find p (map (λ e. e.1) es)) ≡ Some v → (scan.find p (map (λ e. e.1) es) ≡ Some v → (q : ℕ) × (find nat_cmp q es ≡ Some v))
          → (q : ℕ) × (cond (eq_by_cmp nat_cmp q e.0) (Some e.1) (find nat_cmp q es) ≡ Some v)
      by_test true h later = (e.0, ap (λ r. cond (is_eq r) (Some e.1) (find nat_cmp e.0 es)) (tied_itself nat_cmp_total e.0) ∙ h)
      by_test false h later =
          let r = later h in
          (r.0, ap (λ b. cond b (Some e.1) (find nat_cmp r.0 es)) (apart e.0 r.0 es v (first (below_all nat_cmp e.0 es) (is_sorted nat_cmp es) s) r.1) ∙ r.1)

  pub found_under : (m : FinMap nat_cmp X) (p : X → Bool) (v : X) → scan.find p (values m) ≡ Some v → (q : ℕ) × (get m q ≡ Some v)
  found_under m p v h =
      let r = found (entries m) (entries_sorted m) p v h in
      (r.0, get-entries m r.0 ∙ r.1)

  -- under its own key, where each row stands under its own
  pub found_own : (key : X → ℕ) (m : FinMap nat_cmp X) (p : X → Bool) (v : X) → OwnKeys key m → scan.find p (values m) ≡ Some v → get m (key v) ≡ Some v
  found_own key m p v own h =
      let r = found_under m p v h in
      ap (get m) (own r.0 v r.1) ∙ r.1

-- the token that a hash leads to stands under its id
pub kept_at : (tokens : FinMap nat_cmp Token) (hash : List ℕ) (r : Option (Bor Token)) → OwnKeys (λ (row : Token). row.id) tokens
    → option_copied r ≡ row_with (λ (row : Token). row.hash) hash tokens → IfSome r (λ row. get tokens row.now.id ≡ Some row.now)
kept_at tokens hash None own h = tt
kept_at tokens hash (Some k) own h = found_own (λ (row : Token). row.id) tokens (λ (row : Token). eq_by_cmp name_cmp row.hash hash) k.now own (sym h)
