-- One hash after the other in a set.
use Rattle.std.proofs.Common.{◌≡◌, ◌⊎◌, inl, inr, ◌+◌, ◌≤◌, arith, ℕ, Bool, true, false, not, cond, List, refl, sym, ap, ◌∙◌, subst}
use Rattle.std.specs.BTreeSet.{BTreeSet, contains, Updates, IsEmpty}
use Rattle.std.specs.BTreeMap.{is_at}
use Rattle.std.specs.Bool.{one_answer}
use Rattle.std.specs.Cmp.Lexicographic.{slice_cmp, texts_ties, bytes_decides}
use Rattle.std.specs.List.{list_any}
use Rattle.std.specs.Ordering.{nat_cmp}
use Rattle.std.proofs.lemmas.Bool.{cases_lt}
use Rattle.hub_devices.specs.NamedFiles.{same_text}
use Rattle.load_asks.specs.Hashes.{root_hash, hash_at, IsAmong, AreApart, Keeps}

same_is_at : (p k : List ℕ) → same_text p k ≡ is_at (slice_cmp nat_cmp k) p
same_is_at p k =
    one_answer {P = p ≡ k} (same_text p k) (same_text k p) (bytes_decides p k)
    (λ e. sym ((bytes_decides k p).0 e), λ q. (bytes_decides k p).1 (sym q))
    ∙ texts_ties k p

at_is_same : (h q : List ℕ) → is_at (slice_cmp nat_cmp h) q ≡ true → q ≡ h
at_is_same h q at = (bytes_decides q h).0 (same_is_at q h ∙ at)

same_is_there : (h q : List ℕ) → q ≡ h → is_at (slice_cmp nat_cmp h) q ≡ true
same_is_there h q same = sym (same_is_at q h) ∙ (bytes_decides q h).1 same

abbrev Has : BTreeSet (List ℕ) → List ℕ → Bool
Has s h = contains (slice_cmp nat_cmp) s h

no_true : (b : Bool) → b ≡ false → b ≡ true → ⊥
no_true b off on = cc

by_cond : (at had : Bool) → cond at true had ≡ true → (at ≡ true) ⊎ (had ≡ true)
by_cond true had is = inl refl
by_cond false had is = inr is

cond_at : (at had : Bool) → at ≡ true → cond at true had ≡ true
cond_at at had is = rw is refl

cond_had : (at had : Bool) → had ≡ true → cond at true had ≡ true
cond_had true had is = refl
cond_had false had is = is

-- a set with root's hash alone
none_had : (s : BTreeSet (List ℕ)) (h : List ℕ) → IsEmpty s → Has s h ≡ true → ⊥
none_had s h empty has = no_true (Has s h) (ap (λ ks. list_any (is_at (slice_cmp nat_cmp h)) ks) empty) has

no_draw : (h : List ℕ) → (j : ℕ) × (1 ≤ j) × (j ≤ 0) × (h ≡ hash_at j) → ⊥
no_draw h (j, low, high, is) = omega (arith, low, high)

root_of : (h : List ℕ) → IsAmong 0 h → h ≡ root_hash
root_of h (inl is) = is
root_of h (inr draw) = absurd (no_draw h draw)

pub keeps_root : (s n : BTreeSet (List ℕ)) (hash : List ℕ) → IsEmpty s → hash ≡ root_hash → Updates (slice_cmp nat_cmp) s n hash true → Keeps n 0
keeps_root s n hash empty is u = record {
  among = λ h has.
      elim (by_cond (is_at (slice_cmp nat_cmp hash) h) (Has s h) (sym (u.0 h) ∙ has)) [
        | inl at ↦ inl (at_is_same hash h at ∙ is)
        | inr had ↦ absurd (none_had s h empty had)
      ];
  each = λ h among. u.0 h ∙ cond_at (is_at (slice_cmp nat_cmp hash) h) (Has s h) (same_is_there hash h (root_of h among ∙ sym is));
}

-- and one more
wider : (n : ℕ) (h : List ℕ) → IsAmong n h → IsAmong (n + 1) h
wider n h (inl is) = inl is
wider n h (inr (j, low, high, is)) = inr (j, low, omega (arith, high), is)

last_or_before : (n : ℕ) (h : List ℕ) → IsAmong (n + 1) h → (h ≡ hash_at (n + 1)) ⊎ IsAmong n h
last_or_before n h (inl is) = inr (inl is)
last_or_before n h (inr (j, low, high, is)) =
    elim (cases_lt n j) [
      | inl past ↦ inl (is ∙ ap hash_at (omega (arith, past, high)))
      | inr below ↦ inr (inr (j, low, below, is))
    ]

pub keeps_more : (s m : BTreeSet (List ℕ)) (n : ℕ) (hash : List ℕ) → hash ≡ hash_at (n + 1) → Keeps s n → Updates (slice_cmp nat_cmp) s m hash true → Keeps m (n + 1)
keeps_more s m n hash is keeps u = record {
  among = λ h has.
      elim (by_cond (is_at (slice_cmp nat_cmp hash) h) (Has s h) (sym (u.0 h) ∙ has)) [
        | inl at ↦ inr (n + 1, omega arith, omega arith, at_is_same hash h at ∙ is)
        | inr had ↦ wider n h (keeps.among h had)
      ];
  each = λ h among.
      u.0 h
      ∙ (elim (last_or_before n h among) [
        | inl last ↦ cond_at (is_at (slice_cmp nat_cmp hash) h) (Has s h) (same_is_there hash h (last ∙ sym is))
        | inr before ↦ cond_had (is_at (slice_cmp nat_cmp hash) h) (Has s h) (keeps.each h before)
      ]);
}

apart_at : (s : BTreeSet (List ℕ)) (n : ℕ) (hash : List ℕ) → hash ≡ hash_at (n + 1) → Keeps s n → true ≡ not (Has s hash) → ¬ (IsAmong n (hash_at (n + 1)))
apart_at s n hash is keeps added among =
    let has : Has s hash ≡ true = keeps.each hash (subst (IsAmong n) (sym is) among) in
    cc (added, has)

pub apart_more : (s : BTreeSet (List ℕ)) (n : ℕ) (hash : List ℕ) → hash ≡ hash_at (n + 1) → Keeps s n → true ≡ not (Has s hash) → AreApart n → AreApart (n + 1)
apart_more s n hash is keeps added apart = λ j low among.
    elim (cases_lt j n) [
      | inl below ↦ apart j (omega (arith, below)) among
      | inr past ↦
          let last : j ≡ n = omega (arith, past, low) in
          apart_at s n hash is keeps added (subst (λ (k : ℕ). IsAmong k (hash_at (k + 1))) last among)
    ]

pub apart_none : AreApart 0
apart_none = λ j low among. absurd (omega (arith, low))

pub among_at : (s : BTreeSet (List ℕ)) (n : ℕ) (hash : List ℕ) → hash ≡ hash_at (n + 1) → Keeps s n → false ≡ not (Has s hash) → IsAmong n (hash_at (n + 1))
among_at s n hash is keeps added = subst (IsAmong n) is (keeps.among hash (has_from (Has s hash) added))
  where
    has_from : (b : Bool) → false ≡ not b → b ≡ true
    has_from true e = refl
    has_from false e = e
