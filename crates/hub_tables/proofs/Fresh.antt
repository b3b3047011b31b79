-- A row whose id and hash aren't kept may be put.
use Rattle.std.proofs.Common.{◌≡◌, ℕ, Bool, true, false, not, ◌||◌, cond, is_some, List, [], ◌∷◌, Option, Some, None, map, sym, ap, ◌∙◌, refl}
use Rattle.std.specs.Ordering.{nat_cmp, eq_by_cmp}
use Rattle.std.specs.List as scan
use Rattle.std.specs.Option.{option_copied}
use Rattle.std.specs.Borrow.{Bor}
use Rattle.std.specs.Map.{lookup}
use Rattle.std.specs.BTreeMap.{is_at}
use Rattle.std.specs.FinMap.{FinMap, get, entries, get-entries}
use Rattle.hub_kit.specs.KeyOrder.{name_cmp}
use Rattle.keyed_rows.proofs.Finite.{find_is}
use Rattle.row_indexes.proofs.ByHash.{absent, same_tied}
use Rattle.hub_rows.specs.declared.records.Token.{Token}
use Rattle.hub_tables.specs.Hashes.{row_with, FitsHash, FitsToken}

some_none : {X : Type 0} {x : X} → Some x ≡ None → ⊥
some_none h = cc

same_some : {X : Type 0} {x y : X} → Some x ≡ Some y → x ≡ y
same_some h = cc

true_false : {b : Bool} → b ≡ true → b ≡ false → ⊥
true_false h k = cc

-- where a scan finds nothing, no row passes
fails : {K X : Type 0} (test : K → Bool) (p : X → Bool) (es : List (K × X)) (row : X) → lookup test es ≡ Some row → scan.find p (map (λ e. e.1) es) ≡ None → p row ≡ false
fails test p [] row l n = cc
fails test p (e ∷ es) row l n = elim (p e.1) as (λ b. p e.1 ≡ b → cond b (Some e.1) (scan.find p (map (λ e. e.1) es)) ≡ None → p row ≡ false) [
  | true ↦ λ pe n. absurd (some_none n)
  | false ↦ λ pe n. elim (test e.0) as (λ b. cond b (Some e.1) (lookup test es) ≡ Some row → p row ≡ false) [
    | true ↦ λ l. ap p (sym (same_some l)) ∙ pe
    | false ↦ λ l. fails test p es row l n
  ] l
] refl n

pub fits_fresh : {X : Type 0} (id_of : X → ℕ) (hash_of : X → List ℕ) (rows : FinMap nat_cmp X) (value : X) → get rows (id_of value) ≡ None → row_with hash_of (hash_of value) rows ≡ None → FitsHash id_of hash_of rows value
fits_fresh id_of hash_of rows value new none = record {
  no_other = λ id row at same. absurd (true_false (same_tied (hash_of row) (hash_of value) same)
      (fails (is_at (nat_cmp id)) (λ r. eq_by_cmp name_cmp (hash_of r) (hash_of value)) (entries rows) row (sym (get-entries rows id ∙ find_is nat_cmp (entries rows) id) ∙ at) none));
  same = λ row at. absurd (absent at new);
}

pub token_fits : (tokens : FinMap nat_cmp Token) (value : Token) → get tokens value.id ≡ None → row_with (λ (row : Token). row.hash) value.hash tokens ≡ None → FitsToken tokens value
token_fits tokens value new none = record {
  hash = fits_fresh (λ (row : Token). row.id) (λ (row : Token). row.hash) tokens value new none;
  owner = λ row at. absurd (absent at new);
}

-- ---- what a test of both says

pub copied_is_some : {X : Type 0} (x : Option (Bor X)) → is_some x ≡ is_some (option_copied x)
copied_is_some None = refl
copied_is_some (Some b) = refl

neither_true : (a b : Bool) → not (a || b) ≡ true → (a ≡ false) × (b ≡ false)
neither_true true b h = cc
neither_true false true h = cc
neither_true false false h = (refl, refl)

not_some : {X : Type 0} (x : Option X) → is_some x ≡ false → x ≡ None
not_some None h = refl
not_some (Some v) h = cc

module _ {X : Type 0} (id_of : X → ℕ) (hash_of : X → List ℕ) (rows : FinMap nat_cmp X) (id : ℕ) (hash : List ℕ) (r : Bool)
    (is : r ≡ not (is_some (get rows id) || is_some (row_with hash_of hash rows))) (new : r ≡ true) where
  apart : (is_some (get rows id) ≡ false) × (is_some (row_with hash_of hash rows) ≡ false)
  apart = neither_true (is_some (get rows id)) (is_some (row_with hash_of hash rows)) (sym is ∙ new)

  pub id_is_new : (value : X) → id_of value ≡ id → get rows (id_of value) ≡ None
  id_is_new value e = ap (get rows) e ∙ not_some (get rows id) apart.0

  pub hash_is_new : (value : X) → hash_of value ≡ hash → row_with hash_of (hash_of value) rows ≡ None
  hash_is_new value e = ap (λ h. row_with hash_of h rows) e ∙ not_some (row_with hash_of hash rows) apart.1
