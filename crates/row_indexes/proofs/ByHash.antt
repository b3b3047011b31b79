-- An index of hashes stays in step with the rows, and leads to the row that has the hash.
use Rattle.std.proofs.Common.{◌≡◌, ℕ, Bool, true, false, ◌||◌, ◌&&◌, ◌==◌, not, List, Option, Some, None, is_some, sym, ap, ◌∙◌, refl, subst, inl, inr, Result, Ok, Err, is_ok, OnOk, OnErr, if◌then◌else◌}
use Rattle.std.specs.declared.cmp.Ordering.TheVariants.{Less, Equal, Greater}
use Rattle.std.specs.Ordering.{nat_cmp, eq_by_cmp, is_eq}
use Rattle.std.specs.Cmp.{IsTotalOrder, nat_cmp_total, tied_itself}
use Rattle.std.specs.Cmp.Lexicographic.{nat_list_cmp_total}
use Rattle.std.specs.FinMap.{FinMap, get, insert, remove, contains_key, empty, get-empty, IsAntisymmetric, nat_cmp-IsAntisymmetric}
use Rattle.std.specs.BTreeMap.{BTreeMap, IsOrdered}
use Rattle.std.proofs.lemmas.Map.Lookups.{exact_bytes}
use Rattle.std.proofs.lemmas.Bool.{eqb-true, eq-eqb}
use Rattle.std.specs.BTreeMap as tree
use Rattle.std.specs.List.{find}
use Rattle.hub_kit.specs.KeyOrder.{name_cmp}
use Rattle.keyed_rows.specs.Rows.{map_of}
use Rattle.keyed_rows.proofs.Finite.{insert_same, insert_other, insert_cases, remove_cases, remove_other, same_or_apart, find_none, find_one, put_and_removed, remove_absent, values_row, clash}
use Rattle.keyed_rows.specs.declared.PutError.{PutError}
use Rattle.row_indexes.specs.Hashes.{row_with, FitsHash, IsIndexed, leads, several, entry_for, is_alone, without_id, only_with}
use Rattle.row_indexes.specs.Numbers.{number_of}

abbrev names_exact : IsAntisymmetric name_cmp
names_exact = exact_bytes

one_value : {X : Type 0} {x : Option X} {v w : X} → x ≡ Some v → x ≡ Some w → v ≡ w
one_value h k = cc

pub absent : {X : Type 0} {x : Option X} {v : X} → x ≡ Some v → x ≡ None → ⊥
absent h k = cc

not_false : (b : Bool) → (b ≡ true → ⊥) → b ≡ false
not_false true h = absurd (h refl)
not_false false h = refl

tied_names : (a b : List ℕ) → eq_by_cmp name_cmp a b ≡ true → a ≡ b
tied_names a b h = elim (name_cmp a b) as (λ r. name_cmp a b ≡ r → is_eq r ≡ true → a ≡ b) [
  | Less ↦ λ e k. absurd (cc)
  | Equal ↦ λ e k. names_exact a b e
  | Greater ↦ λ e k. absurd (cc)
] refl h

pub same_tied : (a b : List ℕ) → a ≡ b → eq_by_cmp name_cmp a b ≡ true
same_tied a b h = ap (eq_by_cmp name_cmp a) (sym h) ∙ ap is_eq (tied_itself nat_list_cmp_total a)

some_kept : {X : Type 0} (x : Option X) → is_some x ≡ true → (v : X) × (x ≡ Some v)
some_kept None h = cc
some_kept (Some v) h = (v, refl)

none_kept : {X : Type 0} (x : Option X) → is_some x ≡ false → x ≡ None
none_kept None h = refl
none_kept (Some v) h = cc

abbrev ids_total : IsTotalOrder nat_cmp
ids_total = nat_cmp_total

abbrev ids_exact : IsAntisymmetric nat_cmp
ids_exact = nat_cmp-IsAntisymmetric

pub when_ok : {A E : Type 0} (r : Result A E) {P : Type 0} → is_ok r ≡ true → OnOk r P → P
when_ok (Ok v) e h = h
when_ok (Err v) e h = cc

pub when_err : {A E : Type 0} (r : Result A E) {P : Type 0} → is_ok r ≡ false → OnErr r P → P
when_err (Ok v) e h = cc
when_err (Err v) e h = h

-- ---- what stands under a number

or_true : (b : Bool) → (b || true) ≡ true
or_true true = refl
or_true false = refl

none_leads : (id : ℕ) (g : Option ℕ) → g ≡ None → leads id g ≡ true → ⊥
none_leads id None e h = cc
none_leads id (Some kept) e h = cc

put_leads : (id : ℕ) (g : Option ℕ) → leads id (Some (entry_for id g)) ≡ true
put_leads id None = ap (λ b. id == several || b) (eq-eqb id id refl) ∙ or_true (id == several)
put_leads id (Some kept) = refl

still_leads : (id k : ℕ) (g : Option ℕ) → leads id g ≡ true → leads id (Some (entry_for k g)) ≡ true
still_leads id k None h = cc
still_leads id k (Some kept) h = refl

other_leads : (kept id : ℕ) → (kept == several || kept == id) ≡ true → (kept ≡ several → ⊥) → id ≡ kept
other_leads kept id h other = sym (eqb-true kept id (sym (ap (λ b. b || kept == id) (not_false (kept == several) (λ e. other (eqb-true kept several e)))) ∙ h))

led : (id k : ℕ) (g : Option ℕ) → g ≡ Some k → (k ≡ several → ⊥) → leads id g ≡ true → id ≡ k
led id k g e other h = other_leads k id (sym (ap (leads id) e) ∙ h) other

both_true : (a b : Bool) → (a && b) ≡ true → (a ≡ true) × (b ≡ true)
both_true true b h = (refl, h)
both_true false b h = cc

not_true : (b : Bool) → not b ≡ true → b ≡ false
not_true true h = cc
not_true false h = refl

alone_leads : (k id : ℕ) (g : Option ℕ) → is_alone k g ≡ true → leads id g ≡ true → id ≡ k
alone_leads k id None a h = cc
alone_leads k id (Some kept) a h =
    let both = both_true (kept == k) (not (k == several)) a in
    let same = eqb-true kept k both.0 in
    other_leads kept id h (λ s. clash (k == several) (eq-eqb k several (sym same ∙ s)) (not_true (k == several) both.1)) ∙ same

module _ {X : Type 0} (id_of : X → ℕ) (hash_of : X → List ℕ) (rows : FinMap nat_cmp X) (ids : FinMap nat_cmp ℕ) (x : IsIndexed hash_of rows ids) where
  -- a row in place of the one of its id
  index_kept : (v : X) → FitsHash id_of hash_of rows v → (old : X) → get rows (id_of v) ≡ Some old → IsIndexed hash_of (insert rows (id_of v) v) ids
  index_kept v f old kept id t at = elim (insert_cases ids_total ids_exact rows (id_of v) v id t at) as (λ _. leads id (get ids (number_of (hash_of t))) ≡ true) [
    | inl same ↦ ap (λ w. leads id (get ids (number_of (hash_of w)))) (sym same.1) ∙ ap (λ h. leads id (get ids (number_of h))) (sym (f.same old kept))
        ∙ ap (λ k. leads k (get ids (number_of (hash_of old)))) same.0 ∙ x (id_of v) old kept
    | inr other ↦ x id t other.1
  ]

  -- a row under a new id
  module _ (v : X) where
    abbrev number : ℕ
    number = number_of (hash_of v)

    abbrev entry : ℕ
    entry = entry_for (id_of v) (get ids number)

    abbrev with_id : FinMap nat_cmp ℕ
    with_id = insert ids number entry

    index_new : get rows (id_of v) ≡ None → IsIndexed hash_of (insert rows (id_of v) v) with_id
    index_new new id t at = elim (insert_cases ids_total ids_exact rows (id_of v) v id t at) as (λ _. leads id (get with_id (number_of (hash_of t))) ≡ true) [
      | inl same ↦ ap (λ w. leads id (get with_id (number_of (hash_of w)))) (sym same.1) ∙ ap (λ k. leads k (get with_id number)) same.0
          ∙ ap (leads (id_of v)) (insert_same ids_total ids_exact ids number entry) ∙ put_leads (id_of v) (get ids number)
      | inr other ↦ elim (same_or_apart ids_total ids_exact (number_of (hash_of t)) number) as (λ _. leads id (get with_id (number_of (hash_of t))) ≡ true) [
        | inl e ↦ ap (λ n. leads id (get with_id n)) e ∙ ap (leads id) (insert_same ids_total ids_exact ids number entry)
            ∙ still_leads id (id_of v) (get ids number) (ap (λ n. leads id (get ids n)) (sym e) ∙ x id t other.1)
        | inr apart ↦ ap (leads id) (insert_other ids_total ids_exact ids number entry (number_of (hash_of t)) apart) ∙ x id t other.1
      ]
    ]

  -- a row that goes
  index_removed : (k : ℕ) (old : X) → get rows k ≡ Some old → IsIndexed hash_of (remove rows k) (without_id (number_of (hash_of old)) k ids)
  index_removed k old kept id t at =
      let r = remove_cases ids_total ids_exact rows k id t at in
      elim (is_alone k (get ids (number_of (hash_of old)))) as (λ b. is_alone k (get ids (number_of (hash_of old))) ≡ b
      → leads id (get (if b then remove ids (number_of (hash_of old)) else ids) (number_of (hash_of t))) ≡ true) [
        | true ↦ λ e. ap (leads id) (remove_other ids_total ids_exact ids (number_of (hash_of old)) (number_of (hash_of t)) (λ s. r.0 (alone_leads k id _ e (ap (λ n. leads id (get ids n)) (sym s) ∙ x id t r.1))))
            ∙ x id t r.1
        | false ↦ λ e. x id t r.1
      ] refl

  pub index_taken : (rows' : FinMap nat_cmp X) (ids' : FinMap nat_cmp ℕ) (k : ℕ) (old : X) (n : ℕ) → get rows k ≡ Some old → n ≡ number_of (hash_of old)
      → rows' ≡ remove rows k → ids' ≡ without_id n k ids → IsIndexed hash_of rows' ids'
  index_taken rows' ids' k old n kept is e f =
      subst (λ t. IsIndexed hash_of t ids') (sym e) (subst (IsIndexed hash_of (remove rows k)) (sym (f ∙ ap (λ m. without_id m k ids) is)) (index_removed k old kept))

  pub index_none_taken : (rows' : FinMap nat_cmp X) (k : ℕ) → get rows k ≡ None → rows' ≡ remove rows k → IsIndexed hash_of rows' ids
  index_none_taken rows' k none e = subst (λ t. IsIndexed hash_of t ids) (sym (e ∙ remove_absent ids_total ids_exact rows k none)) x

  -- the rows as they were, and the index too
  pub index_same : (rows' : FinMap nat_cmp X) (ids' : FinMap nat_cmp ℕ) → rows' ≡ rows → ids' ≡ ids → IsIndexed hash_of rows' ids'
  index_same rows' ids' e f = subst (λ t. IsIndexed hash_of t ids') (sym e) (subst (IsIndexed hash_of rows) (sym f) x)

  module _ (v : X) where
    -- after a put at a kept id, whatever it answered
    pub index_kept_put : FitsHash id_of hash_of rows v → (after : FinMap nat_cmp X) (r : Result (Unit {0}) PutError) → OnOk r (after ≡ insert rows (id_of v) v) → OnErr r (after ≡ rows)
        → contains_key rows (id_of v) ≡ true → IsIndexed hash_of after ids
    index_kept_put f after (Ok u) ok err kept = let k = some_kept (get rows (id_of v)) kept in subst (λ t. IsIndexed hash_of t ids) (sym ok) (index_kept v f k.0 k.1)
    index_kept_put f after (Err e) ok err kept = subst (λ t. IsIndexed hash_of t ids) (sym err) x

    pub index_new_put : (after : FinMap nat_cmp X) (ids' : FinMap nat_cmp ℕ) (n k : ℕ) → after ≡ insert rows (id_of v) v → n ≡ number_of (hash_of v) → k ≡ id_of v
        → ids' ≡ insert ids n (entry_for k (get ids n)) → contains_key rows (id_of v) ≡ false → IsIndexed hash_of after ids'
    index_new_put after ids' n k put is own added new =
        subst (λ t. IsIndexed hash_of t ids') (sym put)
        (subst (IsIndexed hash_of (insert rows (id_of v) v)) (sym (added ∙ ap (λ m. insert ids m (entry_for k (get ids m))) is ∙ ap (λ i. insert ids (number v) (entry_for i (get ids (number v)))) own))
        (index_new v (none_kept (get rows (id_of v)) new)))

-- a put at a new id that was undone
pub undone : {X : Type 0} (rows put after : FinMap nat_cmp X) (k : ℕ) (v : X) → put ≡ insert rows k v → after ≡ remove put k → contains_key rows k ≡ false → after ≡ rows
undone rows put after k v p a new = a ∙ ap (λ m. remove m k) p ∙ put_and_removed ids_total ids_exact rows k v new

pub empty_indexed : {X : Type 0} (hash_of : X → List ℕ) (rows : FinMap nat_cmp X) (ids : FinMap nat_cmp ℕ) → rows ≡ empty → IsIndexed hash_of rows ids
empty_indexed hash_of rows ids e id t at = absurd (absent at (ap (λ m. get m id) e ∙ get-empty nat_cmp id))

-- what the index leads to is the row that has the hash
module _ {X : Type 0} (hash_of : X → List ℕ) (m : BTreeMap ℕ X) (s : IsOrdered nat_cmp m) (ids : FinMap nat_cmp ℕ) (x : IsIndexed hash_of (map_of nat_cmp m) ids) (hash : List ℕ) where
  abbrev has : X → Bool
  has t = eq_by_cmp name_cmp (hash_of t) hash

  -- where a row has the hash its id, or several, stands under the hash's number
  leads_here : (k : ℕ) (v : X) → get (map_of nat_cmp m) k ≡ Some v → has v ≡ true → leads k (get ids (number_of hash)) ≡ true
  leads_here k v kept e = ap (λ h. leads k (get ids (number_of h))) (sym (tied_names (hash_of v) hash e)) ∙ x k v kept

  pub row_none : get ids (number_of hash) ≡ None → None ≡ row_with hash_of hash (map_of nat_cmp m)
  row_none at = sym (find_none ids_total m s has (λ k v kept. not_false _ (λ e. none_leads k _ at (leads_here k v kept e))))

  module _ (id : ℕ) (at : get ids (number_of hash) ≡ Some id) (other : id ≡ several → ⊥) where
    only_here : (k : ℕ) (v : X) → get (map_of nat_cmp m) k ≡ Some v → has v ≡ true → get (map_of nat_cmp m) id ≡ Some v
    only_here k v kept e = ap (get (map_of nat_cmp m)) (sym (led k id _ at other (leads_here k v kept e))) ∙ kept

    pub row_gone : get (map_of nat_cmp m) id ≡ None → None ≡ row_with hash_of hash (map_of nat_cmp m)
    row_gone none = sym (find_none ids_total m s has (λ k v kept. not_false _ (λ e. absent (only_here k v kept e) none)))

    pub row_there : (row : X) → get (map_of nat_cmp m) id ≡ Some row → only_with has row ≡ row_with hash_of hash (map_of nat_cmp m)
    row_there row kept = elim (has row) as (λ b. has row ≡ b → (if b then Some row else None) ≡ row_with hash_of hash (map_of nat_cmp m)) [
      | true ↦ λ e. sym (find_one ids_total m s has id row kept e (λ k v found e. one_value (only_here k v found e) kept))
      | false ↦ λ e. sym (find_none ids_total m s has (λ k v found. not_false _ (λ t. clash (has v) t (ap has (one_value (only_here k v found t) kept) ∙ e))))
    ] refl

  pub row_scanned : (found : Option X) → found ≡ find has (tree.values m) → found ≡ row_with hash_of hash (map_of nat_cmp m)
  row_scanned found e = e ∙ ap (find has) (sym (values_row ids_total m s))
