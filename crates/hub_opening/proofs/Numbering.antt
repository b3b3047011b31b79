-- The leases once each has a generation.
use Rattle.std.proofs.Common.{◌≡◌, ◌<◌, ◌≤◌, ◌+◌, ◌^◌, ℕ, suc, Bool, true, false, cond, List, [], ◌∷◌, map, length, Option, Some, None, ◌⊎◌, inl, inr, codes, ap, sym, subst, ◌∙◌, refl, arith}
use Rattle.std.specs.Prelude.{fold}
use Rattle.std.specs.Cmp.Lexicographic.{nat_list_cmp_total}
use Rattle.std.specs.FinMap.{FinMap, get, insert, values, entries, len, get-entries, len-entries}
use Rattle.std.specs.FinMap.Entries.{find}
use Rattle.std.specs.Ordering.{is_eq}
use Rattle.keyed_rows.proofs.Finite.{insert_same, insert_cases}
use Rattle.hub_kit.specs.KeyOrder.{name_cmp}
use Rattle.hub_rows.specs.ShareOrder.{names_exact}
use Rattle.hub_rows.specs.declared.records.Lease.{Lease}
use Rattle.hub_rows.specs.declared.records.Next.{Next}
use Rattle.hub_tables.specs.Lookups.{number_of}
use Rattle.hub_tables.specs.State.{State}
use Rattle.hub_machine.specs.State.{next_generation}
use Rattle.hub_opening.specs.Kept.{AreLeasable, with_generation, where_none, of_lease, generation_given, with_generations, targets_of}

abbrev pub Leases : Type 0
Leases = FinMap name_cmp Lease

none_some : {X : Type 0} (x : X) → None ≡ Some x → ⊥
none_some x h = cc

some_one : {X : Type 0} (x y : X) → Some x ≡ Some y → x ≡ y
some_one x y h = cc

-- ---- which leases are in a list

abbrev pub IsIn : {X : Type 0} → X → List X → Type 0
IsIn x [] = ⊥
IsIn x (y ∷ ys) = (x ≡ y) ⊎ IsIn x ys

found_in : (a : List ℕ) (l : Lease) (es : List (List ℕ × Lease)) → find name_cmp a es ≡ Some l → IsIn l (map (λ e. e.1) es)
found_in a l [] h = absurd (none_some l h)
found_in a l (e ∷ es) h = elim (is_eq (name_cmp a e.0)) as (λ b. is_eq (name_cmp a e.0) ≡ b → IsIn l (map (λ e. e.1) (e ∷ es))) [
  | true ↦ λ t. inl (sym (some_one e.1 l (sym (ap (λ b. cond b (Some e.1) (find name_cmp a es)) t) ∙ h)))
  | false ↦ λ t. inr (found_in a l es (sym (ap (λ b. cond b (Some e.1) (find name_cmp a es)) t) ∙ h))
] refl

pub among : (m : Leases) (a : List ℕ) (l : Lease) → get m a ≡ Some l → IsIn l (values m)
among m a l h = found_in a l (entries m) (sym (get-entries m a) ∙ h)

mapped_in : (l : Lease) (ls : List Lease) → IsIn l ls → IsIn l.target (map (λ (k : Lease). k.target) ls)
mapped_in l [] h = h
mapped_in l (k ∷ ls) (inl e) = inl (ap (λ (k : Lease). k.target) e)
mapped_in l (k ∷ ls) (inr h) = inr (mapped_in l ls h)

-- ---- while they are given, those without one are still to come

-- each stands at one of the targets Q
pub record AreGiven (Q : List ℕ → Type 0) (m : Leases) (next : ℕ) (rest : List (List ℕ)) : Type 0 where
  pub own : (a : List ℕ) (l : Lease) → get m a ≡ Some l → l.target ≡ a
  pub of_these : (a : List ℕ) (l : Lease) → get m a ≡ Some l → Q a
  pub servers : (a b : List ℕ) (l k : Lease) → get m a ≡ Some l → get m b ≡ Some k → l.server ≡ k.server → a ≡ b
  pub generations : (a b : List ℕ) (l k : Lease) (g : ℕ) → get m a ≡ Some l → get m b ≡ Some k → l.generation ≡ Some g → k.generation ≡ Some g → a ≡ b
  pub below : (a : List ℕ) (l : Lease) (g : ℕ) → get m a ≡ Some l → l.generation ≡ Some g → g < next
  pub above : 1 ≤ next
  pub left : (a : List ℕ) (l : Lease) → get m a ≡ Some l → l.generation ≡ None → IsIn a rest

abbrev pub AreGivenIn : (List ℕ → Type 0) → State → List (List ℕ) → Type 0
AreGivenIn Q t rest = AreGiven Q t.leases (next_generation t) rest

-- the lease at a target has the next one
module _ (Q : List ℕ → Type 0) (t : State) (target : List ℕ) (rest : List (List ℕ)) (l : Lease) (h : AreGivenIn Q t (target ∷ rest)) (there : get t.leases target ≡ Some l) (lacks : l.generation ≡ None) where
  abbrev given : Lease
  given = record l { generation = Some (next_generation t) }

  at_target : l.target ≡ target
  at_target = h.own target l there

  raised : next_generation (with_generation l t) ≡ next_generation t + 1
  raised = ap number_of (insert_same nat_list_cmp_total names_exact t.nexts (codes "generation") (record { name = codes "generation"; next = next_generation t + 1 }))

  -- what a lease was before
  record Was (q : List ℕ) (w : Lease) : Type 0 where
    old : Lease
    at : get t.leases q ≡ Some old
    server : w.server ≡ old.server
    target_is : w.target ≡ old.target
    turned : ((w ≡ old) × (q ≡ target → ⊥)) ⊎ ((w.generation ≡ Some (next_generation t)) × (q ≡ target))

  was : (q : List ℕ) (w : Lease) → get (with_generation l t).leases q ≡ Some w → Was q w
  was q w is = elim (insert_cases nat_list_cmp_total names_exact t.leases l.target given q w is) as (λ _. Was q w) [
    | inl new ↦
        let here : q ≡ target = new.0 ∙ at_target in
        record {
          old = l;
          at = ap (get t.leases) here ∙ there;
          server = sym (ap (λ (x : Lease). x.server) new.1);
          target_is = sym (ap (λ (x : Lease). x.target) new.1);
          turned = inr (sym (ap (λ (x : Lease). x.generation) new.1), here);
        }
    | inr other ↦ record { old = w; at = other.1; server = refl; target_is = refl; turned = inl (refl, λ here. other.0 (here ∙ sym at_target)) }
  ]

  was_below : (q : List ℕ) (w : Lease) (g : ℕ) → Was q w → w.generation ≡ Some g → g ≤ next_generation t
  was_below q w g x e = elim x.turned as (λ _. g ≤ next_generation t) [
    | inl same ↦ let lt = h.below q x.old g x.at (sym (ap (λ (k : Lease). k.generation) same.0) ∙ e) in omega (arith, lt)
    | inr new ↦ let is : next_generation t ≡ g = some_one _ _ (sym new.0 ∙ e) in omega (arith, is)
  ]

  apart : (p q : List ℕ) (v w : Lease) (g : ℕ) → Was p v → Was q w → v.generation ≡ Some g → w.generation ≡ Some g → p ≡ q
  apart p q v w g x y e f = elim x.turned as (λ _. p ≡ q) [
    | inl old ↦ elim y.turned as (λ _. p ≡ q) [
      | inl older ↦ h.generations p q x.old y.old g x.at y.at (sym (ap (λ (k : Lease). k.generation) old.0) ∙ e) (sym (ap (λ (k : Lease). k.generation) older.0) ∙ f)
      | inr new ↦
          let lt = h.below p x.old g x.at (sym (ap (λ (k : Lease). k.generation) old.0) ∙ e) in
          let is : next_generation t ≡ g = some_one _ _ (sym new.0 ∙ f) in
          absurd (omega (arith, lt, is))
    ]
    | inr new ↦ elim y.turned as (λ _. p ≡ q) [
      | inl older ↦
          let lt = h.below q y.old g y.at (sym (ap (λ (k : Lease). k.generation) older.0) ∙ f) in
          let is : next_generation t ≡ g = some_one _ _ (sym new.0 ∙ e) in
          absurd (omega (arith, lt, is))
      | inr newer ↦ new.1 ∙ sym newer.1
    ]
  ]

  still : (q : List ℕ) (w : Lease) → Was q w → w.generation ≡ None → IsIn q rest
  still q w x e = elim x.turned as (λ _. IsIn q rest) [
    | inl old ↦ elim (h.left q x.old x.at (sym (ap (λ (k : Lease). k.generation) old.0) ∙ e)) as (λ _. IsIn q rest) [
      | inl here ↦ absurd (old.1 here)
      | inr later ↦ later
    ]
    | inr new ↦ absurd (none_some (next_generation t) (sym e ∙ new.0))
  ]

  given_next : AreGivenIn Q (with_generation l t) rest
  given_next = record {
    own = λ a k is. let x = was a k is in x.target_is ∙ h.own a x.old x.at;
    of_these = λ a k is. let x = was a k is in h.of_these a x.old x.at;
    servers = λ a b k m is at same. let x = was a k is in let y = was b m at in h.servers a b x.old y.old x.at y.at (sym x.server ∙ same ∙ y.server);
    generations = λ a b k m g is at e f. apart a b k m g (was a k is) (was b m at) e f;
    below = λ a k g is e. let le = was_below a k g (was a k is) e in let more = raised in omega (arith, le, more);
    above = let more = raised in omega (arith, more);
    left = λ a k is e. still a k (was a k is) e;
  }

-- the first of the rest isn't without one
passed : (Q : List ℕ → Type 0) (t : State) (target : List ℕ) (rest : List (List ℕ)) → ((l : Lease) → get t.leases target ≡ Some l → l.generation ≡ None → ⊥)
    → AreGivenIn Q t (target ∷ rest) → AreGivenIn Q t rest
passed Q t target rest has h = record {
  own = h.own;
  of_these = h.of_these;
  servers = h.servers;
  generations = h.generations;
  below = h.below;
  above = h.above;
  left = λ a l is e. elim (h.left a l is e) as (λ _. IsIn a rest) [
    | inl here ↦ absurd (has l (ap (get t.leases) (sym here) ∙ is) e)
    | inr later ↦ later
  ];
}

given_one : (Q : List ℕ → Type 0) (t : State) (target : List ℕ) (rest : List (List ℕ)) (o : Option Lease) → get t.leases target ≡ o → AreGivenIn Q t (target ∷ rest)
    → AreGivenIn Q (of_lease o t) rest × (next_generation (of_lease o t) ≤ next_generation t + 1)
given_one Q t target rest None e h = (passed Q t target rest (λ l is lacks. none_some l (sym e ∙ is)) h, omega arith)
given_one Q t target rest (Some l) e h = by l.generation refl
  where
    by : (g : Option ℕ) → l.generation ≡ g → AreGivenIn Q (where_none l g t) rest × (next_generation (where_none l g t) ≤ next_generation t + 1)
    by None lacks = (given_next Q t target rest l h e lacks, let more = raised Q t target rest l h e lacks in omega (arith, more))
    by (Some g) has = (passed Q t target rest (λ m is lacks. none_some g (sym lacks ∙ ap (λ (k : Lease). k.generation) (some_one m l (sym is ∙ e)) ∙ has)) h, omega arith)

given_all : (Q : List ℕ → Type 0) (targets : List (List ℕ)) (t : State) → AreGivenIn Q t targets
    → AreGivenIn Q (fold generation_given t targets) [] × (next_generation (fold generation_given t targets) ≤ next_generation t + length targets)
given_all Q [] t h = (h, omega arith)
given_all Q (target ∷ targets) t h =
    let one = given_one Q t target targets (get t.leases target) refl h in
    let all = given_all Q targets (generation_given t target) one.0 in
    let few = one.1 in
    let more = all.1 in
    (all.0, omega (arith, few, more))

begun : (Q : List ℕ → Type 0) (t : State) → AreLeasable t → ((a : List ℕ) (l : Lease) → get t.leases a ≡ Some l → Q a) → AreGivenIn Q t (targets_of t)
begun Q t h these = record {
  own = h.own;
  of_these = these;
  servers = h.servers;
  generations = h.generations;
  below = h.below;
  above = h.above;
  left = λ a l is e. subst (λ (q : List ℕ). IsIn q (targets_of t)) (h.own a l is) (mapped_in l (values t.leases) (among t.leases a l is));
}

-- each lease has a generation, and few are new
pub all_given : (Q : List ℕ → Type 0) (t : State) → AreLeasable t → ((a : List ℕ) (l : Lease) → get t.leases a ≡ Some l → Q a)
    → AreGivenIn Q (with_generations t) [] × (next_generation (with_generations t) ≤ next_generation t + length (targets_of t))
all_given Q t h these = given_all Q (targets_of t) t (begun Q t h these)
