-- What holds of each entry of a cache, and of the new one, holds of each after a look.
use Rattle.std.proofs.Common.{◌≡◌, ℕ, Bool, true, false, cond, nat_eq, List, Option, Some, None, is_some, Contains, inl, inr, refl, sym, ap, ◌∙◌, subst}
use Rattle.std.proofs.lemmas.Bool.{eqb-true}
use Rattle.std.specs.Map.{lookup}
use Rattle.lru.specs.LruCache.{lru_cache, promoted, put_entries}
use Rattle.lru.proofs.CallerLemmas.{Contains-promoted, Contains-put_entries, Contains-lookup}
use Rattle.scope_filters.specs.Grants.{Rights}
use Rattle.hub_rows.specs.declared.records.Token.{Token}
use Rattle.hub_tables.specs.State.{State}
use Rattle.roles.specs.declared.cache.KeptGrant.{KeptGrant}
use Rattle.roles.specs.Rights.{IsAllowed, IsGrantOf}
use Rattle.roles.specs.Looks.{Cache, Entry, with_stamp, with_id, or_else, listed, found, kept_now, after_hit, IsAfterMiss, IsAfter, IsRight, IsSince, IsRightSince, OfAll}

some_same : {X : Type 0} (x y : X) → Some x ≡ Some y → x ≡ y
some_same x y h = cc

-- ---- after a look

was_there : (b : Bool) (id : ℕ) (es : List Entry) (e : Entry) → Contains (cond b (promoted (nat_eq id) es) es) e → Contains es e
was_there true id es e h = Contains-promoted (nat_eq id) es e h
was_there false id es e h = h

all_after_hit : (P : ℕ → KeptGrant → Type 0) (c : Cache) (id stamp : ℕ) → OfAll P c → OfAll P (after_hit c id stamp)
all_after_hit P c id stamp all = (λ j w h. all.0 j w (was_there (is_some (listed c id stamp)) id c.entries (j, w) h), all.1)

moved : (P : ℕ → KeptGrant → Type 0) (id j : ℕ) (kept w : KeptGrant) → j ≡ id → w ≡ kept → P id kept → P j w
moved P id j kept w e f h = subst (λ (i : ℕ). P i w) (sym e) (subst (λ (v : KeptGrant). P id v) (sym f) h)

put_all : (P : ℕ → KeptGrant → Type 0) (c : Cache) (id : ℕ) (kept : KeptGrant) → OfAll P c → P id kept
    → (j : ℕ) (w : KeptGrant) → Contains (put_entries nat_eq (lru_cache c.entries c.capacity) id kept) (j, w) → P j w
put_all P c id kept all new j w h = elim (Contains-put_entries nat_eq (lru_cache c.entries c.capacity) id kept (j, w) h) as (λ _. P j w) [
  | inl there ↦ all.0 j w there
  | inr put ↦ elim put.1 as (λ _. P j w) [
    | inl same ↦ moved P id j kept w same put.0 new
    | inr old ↦ moved P id j kept w (sym (eqb-true id j old.2)) put.0 new
  ]
]

none_held : {X : Type 0} (x : X) → None ≡ Some x → ⊥
none_held x h = cc

all_after_miss : (P : ℕ → KeptGrant → Type 0) (c n : Cache) (id : ℕ) (kept : KeptGrant) → IsAfterMiss c id kept n → OfAll P c → P id kept → OfAll P n
all_after_miss P c n id kept (inl e) all new = subst (OfAll P) (sym e) (put_all P c id kept all new, λ j w h. absurd (none_held (j, w) h))
all_after_miss P c n id kept (inr h) all new = subst (OfAll P) (sym h.1) (all.0, λ j w e. let same = some_same (id, kept) (j, w) e in moved P id j kept w (sym (ap (λ p. p.0) same)) (sym (ap (λ p. p.1) same)) new)

after_all : (P : ℕ → KeptGrant → Type 0) (c n : Cache) (id stamp : ℕ) (before : Option Rights) (grant : Rights) → IsAfter c id stamp before grant n → OfAll P c → P id (kept_now stamp grant) → OfAll P n
after_all P c n id stamp (Some there) grant after all new = subst (OfAll P) (sym after.1) (all_after_hit P c id stamp all)
after_all P c n id stamp None grant after all new = all_after_miss P c n id (kept_now stamp grant) after all new

-- what holds of each entry, and of the grant that was told, holds of each entry afterwards
pub looked_all : (P : ℕ → KeptGrant → Type 0) (c n : Cache) (id stamp : ℕ) (grant : Rights) → IsAfter c id stamp (found c id stamp) grant n → OfAll P c → P id (kept_now stamp grant) → OfAll P n
looked_all P c n id stamp grant after all new = after_all P c n id stamp (found c id stamp) grant after all new

-- ---- what is found is an entry

of_stamp : (P : ℕ → KeptGrant → Type 0) (id stamp : ℕ) (o : Option KeptGrant) (grant : Rights) → ((kept : KeptGrant) → o ≡ Some kept → P id kept) → with_stamp stamp o ≡ Some grant
    → (kept : KeptGrant) × P id kept × (kept.stamp ≡ stamp) × (kept.grant ≡ grant)
of_stamp P id stamp None grant all h = absurd (none_held grant h)
of_stamp P id stamp (Some kept) grant all h = by_test (nat_eq kept.stamp stamp) refl h
  where
    by_test : (b : Bool) → nat_eq kept.stamp stamp ≡ b → cond b (Some kept.grant) None ≡ Some grant → (kept : KeptGrant) × P id kept × (kept.stamp ≡ stamp) × (kept.grant ≡ grant)
    by_test true e h = (kept, all kept refl, eqb-true kept.stamp stamp e, some_same kept.grant grant h)
    by_test false e h = absurd (none_held grant h)

of_list : (P : ℕ → KeptGrant → Type 0) (c : Cache) (id : ℕ) → OfAll P c → (kept : KeptGrant) → lookup (nat_eq id) c.entries ≡ Some kept → P id kept
of_list P c id all kept h = let at = Contains-lookup (nat_eq id) c.entries kept h in moved P at.0 id kept kept (eqb-true id at.0 at.2) refl (all.0 at.0 kept at.1)

of_held : (P : ℕ → KeptGrant → Type 0) (id : ℕ) (held : Option Entry) → ((j : ℕ) (w : KeptGrant) → held ≡ Some (j, w) → P j w) → (kept : KeptGrant) → with_id id held ≡ Some kept → P id kept
of_held P id None all kept h = absurd (none_held kept h)
of_held P id (Some entry) all kept h = by_test (nat_eq id entry.0) refl h
  where
    by_test : (b : Bool) → nat_eq id entry.0 ≡ b → cond b (Some entry.1) None ≡ Some kept → P id kept
    by_test true e h = moved P entry.0 id entry.1 kept (eqb-true id entry.0 e) (sym (some_same entry.1 kept h)) (all entry.0 entry.1 refl)
    by_test false e h = absurd (none_held kept h)

-- what is found is an entry of this id with this stamp
pub found_of_all : (P : ℕ → KeptGrant → Type 0) (c : Cache) (id stamp : ℕ) (grant : Rights) → OfAll P c → found c id stamp ≡ Some grant
    → (kept : KeptGrant) × P id kept × (kept.stamp ≡ stamp) × (kept.grant ≡ grant)
found_of_all P c id stamp grant all h = by_list (listed c id stamp) refl h
  where
    by_list : (o : Option Rights) → listed c id stamp ≡ o → or_else o (with_stamp stamp (with_id id c.held)) ≡ Some grant → (kept : KeptGrant) × P id kept × (kept.stamp ≡ stamp) × (kept.grant ≡ grant)
    by_list (Some g) e h = of_stamp P id stamp (lookup (nat_eq id) c.entries) grant (of_list P c id all) (e ∙ h)
    by_list None e h = of_stamp P id stamp (with_id id c.held) grant (of_held P id c.held all.1) h

-- a cache is right for a token where each of its entries that has this stamp is right
pub right_of_all : (P : ℕ → KeptGrant → Type 0) (c : Cache) (t : State) (k : Token) (stamp : ℕ) → OfAll P c
    → ((kept : KeptGrant) → P k.id kept → kept.stamp ≡ stamp → IsGrantOf t (IsAllowed t k) kept.grant) → IsRight c t k stamp
right_of_all P c t k stamp all each grant h =
    let at = found_of_all P c k.id stamp grant all h in
    subst (λ (g : Rights). IsGrantOf t (IsAllowed t k) g) at.3 (each at.0 at.1 at.2)

-- and right since then where each of its entries that was kept since is
pub since_of_all : (P : ℕ → KeptGrant → Type 0) (c : Cache) (t : State) (k : Token) (since stamp : ℕ) → OfAll P c
    → ((kept : KeptGrant) → P k.id kept → IsSince since stamp kept → IsGrantOf t (IsAllowed t k) kept.grant) → IsRightSince c t k since stamp
since_of_all P c t k since stamp all each kept there h = each kept (of_list P c k.id all kept there) h
