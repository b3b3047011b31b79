-- The keys of one user, in a list of entries whose keys rise.
use Rattle.std.proofs.Common.{ℕ, suc, zero, ◌≡◌, ◌<◌, ◌≤◌, Bool, true, false, cond, ◌&&◌, ◌||◌, T, List, [], ◌∷◌, length, get_or, Option, Some, None, nat_lt, refl, ap, sym, ◌∙◌, subst, arith}
use Rattle.std.proofs.lemmas.Bool.Decides.{nat_tests}
use Rattle.std.specs.List.{list_any}
use Rattle.std.specs.List.Sorted.{IsPartitionedBy, IsPartitionPoint}
use Rattle.std.specs.declared.cmp.Ordering.{Ordering}
use Rattle.std.specs.declared.cmp.Ordering.TheVariants.{Less, Equal, Greater}
use Rattle.std.specs.Ordering.{is_lt, is_eq, eq_by_cmp, ordering_then, ordering_reverse}
use Rattle.std.specs.Cmp.{tied_itself}
use Rattle.std.specs.Cmp.Lexicographic.{nat_list_cmp_total}
use Rattle.std.specs.FinMap.Entries.{find, is_sorted, below_all}
use Rattle.std.proofs.lemmas.Map.Lookups.{exact_bytes}
use Rattle.hub_kit.specs.KeyOrder.{name_cmp, key_cmp, key_exact}
use Rattle.hub_kit.specs.declared.names.ServerKey.{ServerKey}
use Rattle.std.specs.Prelude.{MatchBool, ◌≢◌}
use Rattle.server_life.specs.declared.leases.Held.{Held}
use Rattle.server_life.specs.Leased.{HoldsLease}
use Rattle.server_life.specs.LeaseIndex.{IsIndex, server_in}
use Rattle.server_life.proofs.Index.{key_total, at_some, at_none, lease}

abbrev pub Entry : Type 0
Entry = ServerKey × ℕ

abbrev pub is_of : List ℕ → Entry → Bool
is_of u e = eq_by_cmp name_cmp e.0.user u

abbrev pub is_below : List ℕ → Entry → Bool
is_below u e = is_lt (name_cmp e.0.user u)

first : (a b : Bool) → T (a && b) → T a
first true b p = tt
first false b p = p

second : (a b : Bool) → T (a && b) → T b
second true b p = p
second false b p = absurd p

less : (o : Ordering) → T (is_lt o) → o ≡ Less
less Less p = refl
less Equal p = absurd p
less Greater p = absurd p

tied : (o : Ordering) → is_eq o ≡ true → o ≡ Equal
tied Less h = cc
tied Equal h = refl
tied Greater h = cc

-- the user of a lower key is no higher
order : (a b : ServerKey) (r : Ordering) → name_cmp a.user b.user ≡ r → key_cmp a b ≡ Less → r ≡ Greater → ⊥
order a b r e h g =
    let is : ordering_then Greater (name_cmp a.server b.server) ≡ Less = ap (λ x. ordering_then x (name_cmp a.server b.server)) (sym (e ∙ g)) ∙ h in cc

-- a key whose user is below another's, after a lower key
lower : (u : List ℕ) (a b : ServerKey) → key_cmp a b ≡ Less → name_cmp b.user u ≡ Less → name_cmp a.user u ≡ Less
lower u a b h l = elim (name_cmp a.user b.user) as (λ r. name_cmp a.user b.user ≡ r → name_cmp a.user u ≡ Less) [
  | Less ↦ λ e. nat_list_cmp_total.trans a.user b.user u e l
  | Equal ↦ λ e. subst (λ (x : List ℕ). name_cmp x u ≡ Less) (sym (exact_bytes a.user b.user e)) l
  | Greater ↦ λ e. absurd (order a b Greater e h refl)
] refl

below_at : (x : ServerKey) (es : List Entry) (j : ℕ) (d : Entry) → T (below_all key_cmp x es) → j < length es → key_cmp x (get_or es j d).0 ≡ Less
below_at x [] j d b h = absurd (omega arith)
below_at x (e ∷ es) zero d b h = less _ (first _ _ b)
below_at x (e ∷ es) (suc j) d b h = below_at x es j d (second _ _ b) (omega arith)

pub parted : (u : List ℕ) (es : List Entry) → T (is_sorted key_cmp es) → IsPartitionedBy (is_below u) es
parted u [] s i j d le h p = absurd (omega arith)
parted u (e ∷ es) s zero zero d le h p = p
parted u (e ∷ es) s zero (suc j) d le h p = ap is_lt (lower u e.0 (get_or es j d).0 (below_at e.0 es j d (first _ _ s) (omega arith)) (less _ (subst T (sym p) tt)))
parted u (e ∷ es) s (suc i) zero d le h p = absurd (omega arith)
parted u (e ∷ es) s (suc i) (suc j) d le h p = parted u es (second _ _ s) i j d (omega arith) (omega arith) p

-- behind a key whose user is above, none is of the user
not_of : (u : List ℕ) (a b : ServerKey) → key_cmp a b ≡ Less → name_cmp u a.user ≡ Less → eq_by_cmp name_cmp b.user u ≡ false
not_of u a b h l = elim (eq_by_cmp name_cmp b.user u) as (λ t. eq_by_cmp name_cmp b.user u ≡ t → t ≡ false) [
  | false ↦ λ e. refl
  | true ↦ λ e. absurd (
      let same : b.user ≡ u = exact_bytes b.user u (tied (name_cmp b.user u) e) in
      let up : name_cmp b.user a.user ≡ Less = subst (λ (x : List ℕ). name_cmp x a.user ≡ Less) (sym same) l in
      order a b (name_cmp a.user b.user) refl h (nat_list_cmp_total.antisymm a.user b.user ∙ ap ordering_reverse up))
] refl

none_behind : (u : List ℕ) (a : ServerKey) (es : List Entry) → T (below_all key_cmp a es) → name_cmp u a.user ≡ Less → list_any (is_of u) es ≡ false
none_behind u a [] b l = refl
none_behind u a (e ∷ es) b l = ap (λ t. t || list_any (is_of u) es) (not_of u a e.0 (less _ (first _ _ b)) l) ∙ none_behind u a es (second _ _ b) l

above : (u x : List ℕ) → is_lt (name_cmp x u) ≡ false → eq_by_cmp name_cmp x u ≡ false → name_cmp u x ≡ Less
above u x l t = elim (name_cmp x u) as (λ r. name_cmp x u ≡ r → is_lt r ≡ false → is_eq r ≡ false → name_cmp u x ≡ Less) [
  | Less ↦ λ e l t. cc
  | Equal ↦ λ e l t. cc
  | Greater ↦ λ e l t. nat_list_cmp_total.antisymm u x ∙ ap ordering_reverse e
] refl l t

below_apart : (o : Ordering) → is_lt o ≡ true → is_eq o ≡ false
below_apart Less h = refl
below_apart Equal h = cc
below_apart Greater h = cc

pub any_at : (u : List ℕ) (es : List Entry) (i : ℕ) (d : Entry) → T (is_sorted key_cmp es) → i ≤ length es
    → IsPartitionPoint (λ (e : Entry). is_below u e ≡ true) (λ (e : Entry). is_below u e ≡ false) es i → list_any (is_of u) es ≡ cond (nat_lt i (length es)) (is_of u (get_or es i d)) false
any_at u [] i d s h p = let no : nat_lt i 0 ≡ false = grind (arith, nat_tests) in sym (ap (λ b. cond b (is_of u d) false) no)
any_at u (e ∷ es) zero d s h p =
    let lt : nat_lt 0 (suc (length es)) ≡ true = grind (arith, nat_tests) in
    elim (is_of u e) as (λ b. is_of u e ≡ b → (b || list_any (is_of u) es) ≡ cond (nat_lt 0 (suc (length es))) b false) [
      | true ↦ λ t. sym (ap (λ b. cond b true false) lt)
      | false ↦ λ t. none_behind u e.0 es (first _ _ s) (above u e.0.user (p.1 zero d (omega arith) (omega arith)) t) ∙ sym (ap (λ b. cond b false false) lt)
    ] refl
any_at u (e ∷ es) (suc i) d s h p =
    let same : nat_lt (suc i) (suc (length es)) ≡ nat_lt i (length es) = grind (arith, nat_tests) in
    let rest : list_any (is_of u) es ≡ cond (nat_lt i (length es)) (is_of u (get_or es i d)) false =
    any_at u es i d (second _ _ s) (omega arith) ((λ k d l m. p.0 (suc k) d (omega arith) (omega arith)), λ k d l m. p.1 (suc k) d (omega arith) (omega arith)) in
    ap (λ t. t || list_any (is_of u) es) (below_apart (name_cmp e.0.user u) (p.0 zero d (omega arith) (omega arith))) ∙ (rest ∙ sym (ap (λ b. cond b (is_of u (get_or es i d)) false) same))

-- a key that is found is of a user that is found
pub found_any : (u : List ℕ) (q : ServerKey) (es : List Entry) (v : ℕ) → find key_cmp q es ≡ Some v → q.user ≡ u → list_any (is_of u) es ≡ true
found_any u q [] v h e = cc
found_any u q (x ∷ es) v h e = elim (eq_by_cmp key_cmp q x.0) as (λ b. eq_by_cmp key_cmp q x.0 ≡ b → cond b (Some x.1) (find key_cmp q es) ≡ Some v → (is_of u x || list_any (is_of u) es) ≡ true) [
  | true ↦ λ t f.
      let same : q ≡ x.0 = key_exact q x.0 (tied (key_cmp q x.0) t) in
      let its : eq_by_cmp name_cmp x.0.user u ≡ true = subst (λ (n : List ℕ). eq_by_cmp name_cmp n u ≡ true) (sym e ∙ ap (λ (k : ServerKey). k.user) same) (ap is_eq (tied_itself nat_list_cmp_total u)) in
      rw its refl
  | false ↦ λ t f. or_true (is_of u x) (list_any (is_of u) es) (found_any u q es v f e)
] refl h
  where
    or_true : (a b : Bool) → b ≡ true → (a || b) ≡ true
    or_true true b h = refl
    or_true false b h = h

-- a user that is found has a key that is found
pub any_found : (u : List ℕ) (es : List Entry) → list_any (is_of u) es ≡ true → (q : ServerKey) × (v : ℕ) × (find key_cmp q es ≡ Some v) × (q.user ≡ u)
any_found u [] h = cc
any_found u (x ∷ es) h = elim (is_of u x) as (λ b. is_of u x ≡ b → (b || list_any (is_of u) es) ≡ true → (q : ServerKey) × (v : ℕ) × (find key_cmp q (x ∷ es) ≡ Some v) × (q.user ≡ u)) [
  | true ↦ λ t f. (x.0, x.1, ap (λ r. cond (is_eq r) (Some x.1) (find key_cmp x.0 es)) (tied_itself key_total x.0), exact_bytes x.0.user u (tied (name_cmp x.0.user u) t))
  | false ↦ λ t f. let rest = any_found u es f in behind rest.0 rest.1 rest.2 rest.3 (eq_by_cmp key_cmp rest.0 x.0) refl
] refl h
  where
    behind : (q : ServerKey) (v : ℕ) → find key_cmp q es ≡ Some v → q.user ≡ u → (b : Bool) → eq_by_cmp key_cmp q x.0 ≡ b → (q : ServerKey) × (v : ℕ) × (find key_cmp q (x ∷ es) ≡ Some v) × (q.user ≡ u)
    behind q v f e true t = (q, x.1, ap (λ b. cond b (Some x.1) (find key_cmp q es)) t, e)
    behind q v f e false t = (q, v, ap (λ b. cond b (Some x.1) (find key_cmp q es)) t ∙ f, e)

clash : (b : Bool) → b ≡ true → b ≡ false → ⊥
clash b h k = cc

-- so the user has a lease, or none
pub user_leased : (leased : List (Option Held)) (es : List Entry) (u : List ℕ) (r : Bool) → IsIndex key_cmp server_in leased es → r ≡ list_any (is_of u) es
    → MatchBool r ((i g : ℕ) × (key : ServerKey) × HoldsLease leased i g key × (key.user ≡ u)) ((i g : ℕ) (key : ServerKey) → HoldsLease leased i g key → key.user ≢ u)
user_leased leased es u true index h =
    let found = any_found u es (sym h) in
    let at = at_some key_cmp server_in leased es found.0 found.1 index (sym found.2) in
    (found.1, at.0.generation, at.0.server, at.1, ap (λ (k : ServerKey). k.user) at.2 ∙ found.3)
user_leased leased es u false index h = λ i g key holds same. by i g key holds same (find key_cmp key es) refl
  where
    by : (i g : ℕ) (key : ServerKey) → HoldsLease leased i g key → key.user ≡ u → (o : Option ℕ) → find key_cmp key es ≡ o → ⊥
    by i g key holds same None f = at_none key_cmp server_in leased es key index (sym f) i (lease g key) holds refl
    by i g key holds same (Some v) f = clash (list_any (is_of u) es) (found_any u key es v f same) (sym h)
