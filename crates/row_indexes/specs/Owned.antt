-- Keys under their owners, and what an index of them tells of the rows.
use Rattle.std.specs.Prelude.{◌≡◌, Bool, false, not, ◌&&◌, ◌||◌, List, [], ◌∷◌, Option, Some, None}
use Rattle.std.proofs.Common.{ap, refl}
use Rattle.std.specs.declared.cmp.Ordering.{Ordering}
use Rattle.std.specs.declared.cmp.Ordering.TheVariants.{Less, Equal, Greater}
use Rattle.std.specs.Ordering.{ordering_then, eq_by_cmp, is_gt}
use Rattle.std.specs.Option.{option_cmp}
use Rattle.std.specs.List.{filter, flat_map}
use Rattle.std.specs.FinMap.{FinMap, get, contains_key, IsAntisymmetric}
use Rattle.std.proofs.lemmas.Map.Lookups.{exact_pairs}
use Rattle.keyed_rows.specs.Rows.{is_kept_and}
use Rattle.row_indexes.specs.declared.owned.OwnedKey.{OwnedKey}

-- The order of owned keys: by the owner, and then by the key; one without a key comes before all others of its owner
abbrev pub owned_cmp : {O K : Type 0} → (O → O → Ordering) → (K → K → Ordering) → OwnedKey O K → OwnedKey O K → Ordering
owned_cmp Q R a b = ordering_then (Q a.owner b.owner) (option_cmp R a.key b.key)

-- ---- proofs of laws of `Key` and of the order of owned keys, which stand here since a source cites only what stands in specs/

options_exact : {K : Type 0} {R : K → K → Ordering} → IsAntisymmetric R → IsAntisymmetric (option_cmp R)
options_exact exact None None h = refl
options_exact exact None (Some b) h = cc
options_exact exact (Some a) None h = cc
options_exact exact (Some a) (Some b) h = ap Some (exact a b h)

pub owned_exact : {O K : Type 0} {Q : O → O → Ordering} {R : K → K → Ordering} → IsAntisymmetric Q → IsAntisymmetric R
    → IsAntisymmetric (owned_cmp Q R)
owned_exact {O} {K} {Q} {R} owners keys a b h =
    ap (λ (p : O × Option K). record { owner = p.0; key = p.1 })
    (exact_pairs Q (option_cmp R) owners (options_exact keys) (a.owner, a.key) (b.owner, b.key) h)

pub owned_together : {O K : Type 0} (Q : O → O → Ordering) (R : K → K → Ordering) (a b : OwnedKey O K) → owned_cmp Q R a b ≡ Less
    → is_gt (Q a.owner b.owner) ≡ false
owned_together Q R a b h = elim (Q a.owner b.owner) as (λ r. ordering_then r (option_cmp R a.key b.key) ≡ Less → is_gt r ≡ false) [
  | Less ↦ λ h. refl
  | Equal ↦ λ h. refl
  | Greater ↦ λ h. cc
] h

-- ---- what an index tells

-- The key under its owner
abbrev pub under : {O K : Type 0} → O → K → OwnedKey O K
under owner key = record { owner = owner; key = Some key }

-- The key, where there is one
abbrev pub key_list : {K : Type 0} → Option K → List K
key_list None = []
key_list (Some key) = key ∷ []

-- the keys of the owner's entries
abbrev pub keys_under : {O K : Type 0} → (O → O → Ordering) → O → List (OwnedKey O K) → List K
keys_under Q owner entries = flat_map (λ entry. key_list entry.key) (filter (λ entry. eq_by_cmp Q entry.owner owner) entries)

module _ {O K : Type 0} (Q : O → O → Ordering) (R : K → K → Ordering) where
  -- the index has a key under an owner exactly where the row of the key is the owner's
  abbrev pub IsIndex : {X : Type 0} → (O → X → Bool) → FinMap R X → FinMap (owned_cmp Q R) (Unit {0}) → Type 0
  IsIndex is_of rows index = (owner : O) (key : K) → contains_key index (under owner key) ≡ is_kept_and (is_of owner) (get rows key)

  -- one key stands under one owner now, and all else is as before
  abbrev pub IsNoted : O → K → FinMap (owned_cmp Q R) (Unit {0}) → FinMap (owned_cmp Q R) (Unit {0}) → Type 0
  IsNoted owner key before after = (o : O) (k : K)
      → contains_key after (under o k) ≡ ((eq_by_cmp Q o owner && eq_by_cmp R k key) || contains_key before (under o k))

  -- The key stands under the owner no more, and all else is as before
  abbrev pub IsForgotten : O → K → FinMap (owned_cmp Q R) (Unit {0}) → FinMap (owned_cmp Q R) (Unit {0}) → Type 0
  IsForgotten owner key before after = (o : O) (k : K)
      → contains_key after (under o k) ≡ (not (eq_by_cmp Q o owner && eq_by_cmp R k key) && contains_key before (under o k))
