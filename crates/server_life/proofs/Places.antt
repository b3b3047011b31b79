-- What a change of one lease keeps.
use Rattle.std.proofs.Common.{ℕ, suc, zero, ◌≡◌, ◌≢◌, ◌<◌, ◌≤◌, ◌⊎◌, inl, inr, List, [], ◌∷◌, length, set, Option, Some, None, refl, ap, sym, ◌∙◌, subst, arith, slice_get, length-set, replicate}
use Rattle.std.specs.Prelude.{AllPairs}
use Rattle.hub_kit.specs.declared.names.ServerKey.{ServerKey}
use Rattle.server_life.specs.declared.leases.Held.{Held}
use Rattle.server_life.specs.Leased.{IsNotLive, IsUnleased, HoldsLease}
use Rattle.server_life.specs.LeaseTable.{LeaseTable, IsOneToOne}

pub get_set : {A : Type 0} (xs : List A) (i : ℕ) (v : A) (j : ℕ) (x : A) → slice_get (set xs i v) j ≡ Some x → ((i ≡ j) × (v ≡ x)) ⊎ ((i ≢ j) × (slice_get xs j ≡ Some x))
get_set [] i v j x h = cc
get_set (y ∷ ys) zero v zero x h = inl (refl, cc)
get_set (y ∷ ys) zero v (suc j) x h = inr ((λ e. omega (arith, e)), h)
get_set (y ∷ ys) (suc i) v zero x h = inr ((λ e. omega (arith, e)), h)
get_set (y ∷ ys) (suc i) v (suc j) x h = elim (get_set ys i v j x h) [
  | inl e ↦ inl (ap suc e.0, e.1)
  | inr e ↦ inr ((λ q. e.0 (omega (arith, q))), e.1)
]

some_is : {A : Type 0} (x y : A) → Some x ≡ Some y → x ≡ y
some_is x y h = cc

same_held : (a b : Held) → Some a ≡ Some b → a ≡ b
same_held a b h = some_is a b h

abbrev a_lease : ℕ → ServerKey → Option Held
a_lease g k = Some (record { generation = g; server = k })

same_generation : (g h : ℕ) (k l : ServerKey) → a_lease g k ≡ a_lease h l → g ≡ h
same_generation g h k l e = ap (λ (x : Held). x.generation) (same_held (record { generation = g; server = k }) (record { generation = h; server = l }) e)

same_server : (g h : ℕ) (k l : ServerKey) → a_lease g k ≡ a_lease h l → k ≡ l
same_server g h k l e = ap (λ (x : Held). x.server) (same_held (record { generation = g; server = k }) (record { generation = h; server = l }) e)

none_is : (a : Held) → None ≡ Some a → ⊥
none_is a h = cc

-- one more lease
pub one_more : (t : LeaseTable) (i g next : ℕ) (key : ServerKey) → IsOneToOne t → IsNotLive t.leased g → IsUnleased t.leased key → g < next → t.next ≤ next
    → IsOneToOne (record { pool = t.pool; leased = set t.leased i (Some (record { generation = g; server = key })); next = next })
one_more t i g next key o n u l m = record {
  places = length-set t.leased i (Some (record { generation = g; server = key })) ∙ o.places;
  small = o.small;
  above = (let a : 1 ≤ t.next = o.above in omega arith);
  distinct = o.distinct;
  below = λ j h k e. elim (get_set t.leased i (Some (record { generation = g; server = key })) j (Some (record { generation = h; server = k })) e) [
    | inl x ↦ (let q : g ≡ h = same_generation g h key k x.1 in omega arith)
    | inr x ↦ (let b : h < t.next = o.below j h k x.1 in omega arith)
  ];
  generations = λ a b h k y e f. elim (get_set t.leased i (Some (record { generation = g; server = key })) a (Some (record { generation = h; server = k })) e) [
    | inl x ↦ elim (get_set t.leased i (Some (record { generation = g; server = key })) b (Some (record { generation = h; server = y })) f) [
      | inl z ↦ sym x.0 ∙ z.0
      | inr z ↦ absurd (n b y (subst (λ q. HoldsLease t.leased b q y) (sym (same_generation g h key k x.1)) z.1))
    ]
    | inr x ↦ elim (get_set t.leased i (Some (record { generation = g; server = key })) b (Some (record { generation = h; server = y })) f) [
      | inl z ↦ absurd (n a k (subst (λ q. HoldsLease t.leased a q k) (sym (same_generation g h key y z.1)) x.1))
      | inr z ↦ o.generations a b h k y x.1 z.1
    ]
  ];
  servers = λ a b h d k e f. elim (get_set t.leased i (Some (record { generation = g; server = key })) a (Some (record { generation = h; server = k })) e) [
    | inl x ↦ elim (get_set t.leased i (Some (record { generation = g; server = key })) b (Some (record { generation = d; server = k })) f) [
      | inl z ↦ sym x.0 ∙ z.0
      | inr z ↦ absurd (u b d (subst (λ (q : ServerKey). HoldsLease t.leased b d q) (sym (same_server g h key k x.1)) z.1))
    ]
    | inr x ↦ elim (get_set t.leased i (Some (record { generation = g; server = key })) b (Some (record { generation = d; server = k })) f) [
      | inl z ↦ absurd (u a h (subst (λ (q : ServerKey). HoldsLease t.leased a h q) (sym (same_server g d key k z.1)) x.1))
      | inr z ↦ o.servers a b h d k x.1 z.1
    ]
  ];
}

-- nothing is leased
pub none_leased : (t : LeaseTable) → ((i g : ℕ) (k : ServerKey) → HoldsLease t.leased i g k → ⊥) → length t.leased ≡ length t.pool → length t.pool ≤ 1000 → 1 ≤ t.next → AllPairs (λ a b. a ≢ b) t.pool → IsOneToOne t
none_leased t n p s a d = record {
  places = p;
  small = s;
  above = a;
  distinct = d;
  below = λ i g k e. absurd (n i g k e);
  generations = λ i j g k l e f. absurd (n i g k e);
  servers = λ i j g h k e f. absurd (n i g k e);
}

get_replicate : {A : Type 0} (n : ℕ) (x : A) (i : ℕ) (y : A) → slice_get (replicate n x) i ≡ Some y → x ≡ y
get_replicate zero x i y h = cc
get_replicate (suc n) x zero y h = cc
get_replicate (suc n) x (suc i) y h = get_replicate n x i y h

-- places without a lease
pub none_at_first : (xs : List (Option Held)) (n : ℕ) → xs ≡ replicate n None → (i g : ℕ) (k : ServerKey) → HoldsLease xs i g k → ⊥
none_at_first xs n e i g k h = none_is (record { generation = g; server = k }) (get_replicate n None i (Some (record { generation = g; server = k })) (subst (λ (ys : List (Option Held)). HoldsLease ys i g k) e h))
