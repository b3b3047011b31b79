-- What is found in a cache after a hit, and after a new entry.
use Rattle.std.proofs.Common.{◌≡◌, ◌≤◌, ℕ, ◌-◌, take, arith, Bool, true, false, cond, nat_eq, List, [], ◌∷◌, Option, Some, None, is_some, IsSomeAnd, inl, inr, refl, sym, ap, ◌∙◌, subst}
use Rattle.std.specs.Cmp.{nat_eq_equiv}
use Rattle.std.specs.Option.{option_map_or}
use Rattle.std.specs.Map.{lookup, lookup_entry, remove_entry, set_value}
use Rattle.std.proofs.lemmas.Map.Entries.{lookup_head}
use Rattle.lru.specs.LruCache.{LruCache, lru_cache, promoted, put_entries}
use Rattle.lru.proofs.CallerLemmas.{lookup-put_entries, Contains-lookup_entry}
use Rattle.scope_filters.specs.Grants.{Rights}
use Rattle.hub_rows.specs.declared.records.Token.{Token}
use Rattle.hub_tables.specs.State.{State}
use Rattle.roles.specs.declared.cache.KeptGrant.{KeptGrant}
use Rattle.roles.specs.Rights.{IsAllowed, IsGrantOf}
use Rattle.roles.specs.Looks.{Cache, with_stamp, with_id, or_else, listed, found, kept_now, after_hit, IsAfterMiss, IsAfter, IsBrought, IsRight, IsSince, IsRightSince}

-- ---- an entry that comes to the front

value_of : {K V : Type 0} → Option (K × V) → Option V
value_of None = None
value_of (Some e) = Some e.1

found_entry : {K V : Type 0} (test : K → Bool) (es : List (K × V)) → lookup test es ≡ value_of (lookup_entry test es)
unfolding value_of
found_entry test [] = refl
found_entry test (e ∷ es) = elim (test e.0) as (λ b. cond b (Some e.1) (lookup test es) ≡ value_of (cond b (Some e) (lookup_entry test es))) [
  | true ↦ refl
  | false ↦ found_entry test es
]

front : {K V : Type 0} (test : K → Bool) (es : List (K × V)) (o : Option (K × V)) → lookup_entry test es ≡ o
    → lookup test (option_map_or (λ e. e ∷ remove_entry test es) o es) ≡ lookup test es
unfolding value_of
front test es None h = refl
front test es (Some e) h = lookup_head test e (remove_entry test es) (Contains-lookup_entry test es e h).1 ∙ sym (ap value_of h) ∙ sym (found_entry test es)

maybe_front : (b : Bool) (id : ℕ) (es : List (ℕ × KeptGrant)) → lookup (nat_eq id) (cond b (promoted (nat_eq id) es) es) ≡ lookup (nat_eq id) es
maybe_front true id es = front (nat_eq id) es (lookup_entry (nat_eq id) es) refl
maybe_front false id es = refl

found_after_hit : (c n : Cache) (id stamp : ℕ) → n ≡ after_hit c id stamp → found n id stamp ≡ found c id stamp
found_after_hit c n id stamp e =
    ap (λ n. found n id stamp) e
    ∙ ap (λ l. or_else (with_stamp stamp l) (with_stamp stamp (with_id id c.held))) (maybe_front (is_some (listed c id stamp)) id c.entries)

-- an entry that comes to the front and is written over is one that is put
written : {K V : Type 0} (eq : K → K → Bool) (c : LruCache K V) (k : K) (old new : V) (o : Option (K × V)) → lookup_entry (eq k) c.entries ≡ o → value_of o ≡ Some old
    → set_value (eq k) (option_map_or (λ e. e ∷ remove_entry (eq k) c.entries) o c.entries) new
    ≡ option_map_or (λ e. (e.0, new) ∷ remove_entry (eq k) c.entries) o ((k, new) ∷ take (c.cap - 1) c.entries)
unfolding value_of
written eq c k old new None at h = cc
written eq c k old new (Some e) at h =
    ap (λ (b : Bool). cond b ((e.0, new) ∷ remove_entry (eq k) c.entries) (e ∷ set_value (eq k) (remove_entry (eq k) c.entries) new)) (Contains-lookup_entry (eq k) c.entries e at).1

pub restamped : (c : LruCache ℕ KeptGrant) (id : ℕ) (old new : KeptGrant) → lookup (nat_eq id) c.entries ≡ Some old
    → lru_cache (set_value (nat_eq id) (promoted (nat_eq id) c.entries) new) c.cap ≡ lru_cache (put_entries nat_eq c id new) c.cap
restamped c id old new there = ap (λ es. lru_cache es c.cap) (written nat_eq c id old new (lookup_entry (nat_eq id) c.entries) refl (sym (found_entry (nat_eq id) c.entries) ∙ there))

some_same : {X : Type 0} (x y : X) → Some x ≡ Some y → x ≡ y
some_same x y h = cc

pub same_kept : (x y : KeptGrant) → Some x ≡ Some y → x ≡ y
same_kept x y h = some_same x y h

brings_hit : (c n : Cache) (id stamp : ℕ) (before after : Option Rights) → after ≡ before → is_some before ≡ true → n ≡ after_hit c id stamp
    → IsSomeAnd after (λ grant. IsAfter c id stamp before grant n)
brings_hit c n id stamp None o e h k = cc
brings_hit c n id stamp (Some g) None e h k = cc
brings_hit c n id stamp (Some g) (Some g') e h k = (some_same g' g e, k)

pub hit_brings : (c n : Cache) (id stamp : ℕ) → is_some (found c id stamp) ≡ true → n ≡ after_hit c id stamp → IsBrought c id stamp n
hit_brings c n id stamp h e = brings_hit c n id stamp (found c id stamp) (found n id stamp) (found_after_hit c n id stamp e) h e

pub hit_right : (c n : Cache) (t : State) (k : Token) (stamp : ℕ) → n ≡ after_hit c k.id stamp → IsRight c t k stamp → IsRight n t k stamp
hit_right c n t k stamp e right grant h = right grant (sym (found_after_hit c n k.id stamp e) ∙ h)

-- ---- a new entry

new_found : (c n : Cache) (id : ℕ) (kept : KeptGrant) → IsAfterMiss c id kept n → found n id kept.stamp ≡ Some kept.grant
new_found c n id kept (inl e) =
    ap (λ n. found n id kept.stamp) e
    ∙ ap (λ l. or_else (with_stamp kept.stamp l) None) (lookup-put_entries nat_eq (lru_cache c.entries c.capacity) id kept nat_eq_equiv)
    ∙ ap (λ b. or_else (cond b (Some kept.grant) None) None) (nat_eq_equiv.refl kept.stamp)
new_found c n id kept (inr h) =
    ap (λ n. found n id kept.stamp) h.1
    ∙ ap (λ l. or_else (with_stamp kept.stamp l) (with_stamp kept.stamp (with_id id (Some (id, kept))))) h.0
    ∙ ap (λ b. with_stamp kept.stamp (cond b (Some kept) None)) (nat_eq_equiv.refl id)
    ∙ ap (λ b. cond b (Some kept.grant) None) (nat_eq_equiv.refl kept.stamp)

not_some : {X : Type 0} (o : Option X) → is_some o ≡ false → o ≡ None
not_some None h = refl
not_some (Some x) h = cc

pub miss_brings : (c n : Cache) (id : ℕ) (kept : KeptGrant) → is_some (found c id kept.stamp) ≡ false → IsAfterMiss c id kept n → IsBrought c id kept.stamp n
miss_brings c n id kept h after =
    subst (λ (o : Option Rights). IsSomeAnd o (λ grant. IsAfter c id kept.stamp (found c id kept.stamp) grant n)) (sym (new_found c n id kept after))
    (subst (λ (o : Option Rights). IsAfter c id kept.stamp o kept.grant n) (sym (not_some (found c id kept.stamp) h)) after)

pub miss_right : (c n : Cache) (t : State) (k : Token) (kept : KeptGrant) → IsGrantOf t (IsAllowed t k) kept.grant → IsAfterMiss c k.id kept n → IsRight n t k kept.stamp
miss_right c n t k kept exact after grant h =
    subst (λ (g : Rights). IsGrantOf t (IsAllowed t k) g) (some_same kept.grant grant (sym (new_found c n k.id kept after) ∙ h)) exact

pub nothing_found : (c : Cache) (id stamp : ℕ) → is_some (found c id stamp) ≡ false → found c id stamp ≡ None
nothing_found c id stamp h = not_some (found c id stamp) h

-- ---- a look that was answered

pub brought_found : (c n : Cache) (id stamp : ℕ) → IsBrought c id stamp n → found n id stamp ≡ None → ⊥
brought_found c n id stamp brought h = subst (λ (o : Option Rights). IsSomeAnd o (λ grant. IsAfter c id stamp (found c id stamp) grant n)) h brought

pub brought_after : (c n : Cache) (id stamp : ℕ) (grant : Rights) → found n id stamp ≡ Some grant → IsBrought c id stamp n → IsAfter c id stamp (found c id stamp) grant n
brought_after c n id stamp grant h brought = subst (λ (o : Option Rights). IsSomeAnd o (λ g. IsAfter c id stamp (found c id stamp) g n)) h brought

-- ---- an entry that is kept with a new stamp

pub renewed_from : (c n : Cache) (t : State) (k : Token) (since stamp : ℕ) → IsSomeAnd (lookup (nat_eq k.id) c.entries) (IsSince since stamp) → IsRightSince c t k since stamp
    → ((kept : KeptGrant) → lookup (nat_eq k.id) c.entries ≡ Some kept → IsAfterMiss c k.id (kept_now stamp kept.grant) n)
    → (kept : KeptGrant) × IsGrantOf t (IsAllowed t k) kept.grant × IsAfterMiss c k.id (kept_now stamp kept.grant) n
renewed_from c n t k since stamp there right after = by_entry (lookup (nat_eq k.id) c.entries) refl there
  where
    by_entry : (o : Option KeptGrant) → lookup (nat_eq k.id) c.entries ≡ o → IsSomeAnd o (IsSince since stamp)
        → (kept : KeptGrant) × IsGrantOf t (IsAllowed t k) kept.grant × IsAfterMiss c k.id (kept_now stamp kept.grant) n
    by_entry None e h = absurd h
    by_entry (Some kept) e h = (kept, right kept e h, after kept e)

pub renewed_brings : (c n : Cache) (t : State) (k : Token) (since stamp : ℕ) → is_some (found c k.id stamp) ≡ false → IsSomeAnd (lookup (nat_eq k.id) c.entries) (IsSince since stamp)
    → IsRightSince c t k since stamp → ((kept : KeptGrant) → lookup (nat_eq k.id) c.entries ≡ Some kept → IsAfterMiss c k.id (kept_now stamp kept.grant) n) → IsBrought c k.id stamp n
renewed_brings c n t k since stamp h there right after =
    let at = renewed_from c n t k since stamp there right after in
    miss_brings c n k.id (kept_now stamp at.0.grant) h at.2

pub renewed_right : (c n : Cache) (t : State) (k : Token) (since stamp : ℕ) → IsSomeAnd (lookup (nat_eq k.id) c.entries) (IsSince since stamp)
    → IsRightSince c t k since stamp → ((kept : KeptGrant) → lookup (nat_eq k.id) c.entries ≡ Some kept → IsAfterMiss c k.id (kept_now stamp kept.grant) n) → IsRight n t k stamp
renewed_right c n t k since stamp there right after =
    let at = renewed_from c n t k since stamp there right after in
    miss_right c n t k (kept_now stamp at.0.grant) at.1 at.2
