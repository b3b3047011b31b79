-- What a list of routes has at a path after a route is put in front, or those of a path are taken out.
use Rattle.std.proofs.Common.{◌≡◌, ℕ, suc, ◌-◌, ◌<◌, ◌≤◌, arith, length, get_or, drop, drop-cons, Bool, true, false, not, cond, List, [], ◌∷◌, map, filter, Option, Some, None, refl, sym, ap, ◌∙◌, subst, if◌then◌else◌}
use Rattle.std.specs.BTreeMap.{BTreeMap, get, is_at, IsOrdered, Updates}
use Rattle.std.specs.Bool.{one_answer}
use Rattle.std.specs.Cmp.Lexicographic.{slice_cmp, texts_ties, bytes_decides}
use Rattle.std.specs.List.Sorted.{IsStrictlySortedBy}
use Rattle.std.specs.Map.{lookup, keys_of}
use Rattle.std.specs.Ordering.{nat_cmp}
use Rattle.std.proofs.lemmas.Map.Entries.{lookup-filter-keys}
use Rattle.hub_devices.specs.declared.calls.ListedRoute.{ListedRoute}
use Rattle.hub_devices.specs.NamedFiles.{same_text}
use Rattle.hub_devices.specs.Routes.{entry_of, route_from, route_of, Puts, Lists}

-- a path is at another in the order of bytes exactly where it is the same
same_is_at : (p k : List ℕ) → same_text p k ≡ is_at (slice_cmp nat_cmp k) p
same_is_at p k =
    one_answer {P = p ≡ k} (same_text p k) (same_text k p) (bytes_decides p k)
    (λ e. sym ((bytes_decides k p).0 e), λ q. (bytes_decides k p).1 (sym q))
    ∙ texts_ties k p

-- ---- the state
pub Puts_front : (before after : List ListedRoute) (r : ListedRoute) → after ≡ r ∷ before
    → Puts before r.path (Some (r.target, r.serial)) after
Puts_front before after r is = record { puts = λ p. ap (λ l. route_of l p) is }

kept_entries : (b : Bool) (r : ListedRoute) (rs : List ListedRoute) (es : List (List ℕ × (List ℕ × Option ℕ))) → map entry_of rs ≡ es
    → map entry_of (cond b (r ∷ rs) rs) ≡ cond b (entry_of r ∷ es) es
kept_entries true r rs es e = ap (λ w. entry_of r ∷ w) e
kept_entries false r rs es e = e

entries_filter : (q : List ℕ → Bool) (rs : List ListedRoute) → map entry_of (filter (λ r. q r.path) rs) ≡ filter (λ e. q e.0) (map entry_of rs)
entries_filter q [] = refl
entries_filter q (r ∷ rs) =
    kept_entries (q r.path) r (filter (λ s. q s.path) rs) (filter (λ e. q e.0) (map entry_of rs)) (entries_filter q rs)

cond_not : {A : Type 0} (b : Bool) (x : Option A) → cond (not b) x None ≡ (if b then None else x)
cond_not true x = refl
cond_not false x = refl

pub Puts_none : (before after : List ListedRoute) (path : List ℕ) → after ≡ filter (λ r. not (same_text r.path path)) before
    → Puts before path None after
Puts_none before after path is = record {
  puts = λ p. ap (λ l. route_of l p) is
      ∙ (ap (lookup (λ k. same_text p k)) (entries_filter (λ k. not (same_text k path)) before)
      ∙ (lookup-filter-keys (λ k. same_text p k) (λ k. not (same_text k path)) (not (same_text p path))
      (λ k e. ap (λ m. not (same_text m path)) (sym ((bytes_decides p k).0 e))) (map entry_of before)
      ∙ cond_not (same_text p path) (route_of before p)));
}

-- ---- the list
-- one more route, put in under its path
get_more : (m n : BTreeMap (List ℕ) (List ℕ × Option ℕ)) (rest : List ListedRoute) (r : ListedRoute)
    → Updates (slice_cmp nat_cmp) m n r.path (Some (r.target, r.serial)) → ((p : List ℕ) → get (slice_cmp nat_cmp) m p ≡ route_of rest p)
    → (p : List ℕ) → get (slice_cmp nat_cmp) n p ≡ route_of (r ∷ rest) p
get_more m n rest r u same p =
    u.0 p
    ∙ (ap (λ b. cond b (Some (r.target, r.serial)) (get (slice_cmp nat_cmp) m p)) (sym (same_is_at p r.path))
    ∙ ap (λ o. cond (same_text p r.path) (Some (r.target, r.serial)) o) (same p))

-- the route before a place of the list, by copies of its texts
pub get_before : (m n : BTreeMap (List ℕ) (List ℕ × Option ℕ)) (routes : List ListedRoute) (at : ℕ) (r : ListedRoute) (k t : List ℕ)
    → 0 < at → at ≤ length routes → r ≡ get_or routes (at - 1) r
    → Updates (slice_cmp nat_cmp) m n k (Some (t, r.serial)) → k ≡ r.path → t ≡ r.target
    → ((p : List ℕ) → get (slice_cmp nat_cmp) m p ≡ route_of (drop at routes) p)
    → (at - 1 ≤ length routes) × ((p : List ℕ) → get (slice_cmp nat_cmp) n p ≡ route_of (drop (at - 1) routes) p)
get_before m n routes at r k t positive within is u path_is target_is same =
    let below : at - 1 < length routes = omega arith in
    let next : suc (at - 1) ≡ at = omega arith in
    let copy : ListedRoute = record { path = k; target = t; serial = r.serial } in
    let copied : copy ≡ r = λ i. record { path = path_is i; target = target_is i; serial = r.serial } in
    let whole : drop (at - 1) routes ≡ r ∷ drop at routes =
    drop-cons routes (at - 1) r below
    ∙ (ap (λ s. s ∷ drop (suc (at - 1)) routes) (sym is) ∙ ap (λ j. r ∷ drop j routes) next) in (
      omega arith,
      λ p. get_more m n (drop at routes) copy u same p
          ∙ (ap (λ s. route_of (s ∷ drop at routes) p) copied ∙ ap (λ l. route_of l p) (sym whole)),
    )

paths_of : (es : List (List ℕ × (List ℕ × Option ℕ))) → map (λ (r : ListedRoute). r.path) (map route_from es) ≡ keys_of es
paths_of [] = refl
paths_of (e ∷ es) = ap (λ w. e.0 ∷ w) (paths_of es)

entries_back : (es : List (List ℕ × (List ℕ × Option ℕ))) → map entry_of (map route_from es) ≡ es
entries_back [] = refl
entries_back (e ∷ es) = ap (λ w. e ∷ w) (entries_back es)

lookup_ties : (p : List ℕ) (es : List (List ℕ × (List ℕ × Option ℕ))) → lookup (λ k. same_text p k) es ≡ lookup (is_at (slice_cmp nat_cmp p)) es
lookup_ties p [] = refl
lookup_ties p (e ∷ es) =
    ap (λ b. cond b (Some e.1) (lookup (λ k. same_text p k) es)) (texts_ties p e.0)
    ∙ ap (λ o. cond (is_at (slice_cmp nat_cmp p) e.0) (Some e.1) o) (lookup_ties p es)

pub Lists_map : (routes listed : List ListedRoute) (m : BTreeMap (List ℕ) (List ℕ × Option ℕ)) → listed ≡ map route_from m.entries
    → IsOrdered (slice_cmp nat_cmp) m → ((p : List ℕ) → get (slice_cmp nat_cmp) m p ≡ route_of routes p) → Lists routes listed
Lists_map routes listed m is ordered same = record {
  in_order =
      let Sorted : List (List ℕ) → Type 0 = IsStrictlySortedBy (slice_cmp nat_cmp) in
      subst Sorted (sym (ap (map (λ (r : ListedRoute). r.path)) is ∙ paths_of m.entries)) ordered;
  same = λ p. ap (λ l. route_of l p) is
      ∙ (ap (lookup (λ k. same_text p k)) (entries_back m.entries) ∙ (lookup_ties p m.entries ∙ same p));
}
