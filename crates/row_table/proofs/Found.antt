-- A store whose schema and rows were found to be those of this program.
use Rattle.std.proofs.Common.{◌≡◌, ◌≤◌, ◌+◌, ℕ, suc, ℤ, Bool, true, false, cond, ◌&&◌, List, [], ◌∷◌, map, drop, sum_by, None, Some, Ordering, Less, Equal, Greater, refl, sym, ap, subst, ◌∙◌, arith, true≢false}
use Rattle.std.specs.List.Sorted.{IsPermutation}
use Rattle.std.specs.Ordering.{is_ne}
use Rattle.std.specs.FinMap.{int_cmp-IsAntisymmetric}
use Rattle.std.proofs.lemmas.Bool.{and_parts, and_from, both_ways, false_from_ne_true, not-true}
use Rattle.std.proofs.lemmas.List.Sums.{sum_by-cons}
use Rattle.std.proofs.lemmas.List.Sorted.{sum_by-IsPermutation}
use Rattle.sqlite.specs.Effect.{Database, IsDatabase}
use Rattle.sqlite.specs.Order.{Row, column, value_cmp}
use Rattle.sqlite.specs.Ops.{binary, is_null, is_true, from_truth}
use Rattle.sqlite.specs.Tree.{Trees, rowid, has_rowid}
use Rattle.sqlite.specs.declared.types.Value.TheVariants.{Int}
use Rattle.sqlite_rules.specs.Lists.{Has}
use Rattle.sqlite_rules.proofs.ListLemmas.{all_has, some_from}
use Rattle.sqlite_rules.proofs.RowLemmas.{untyped}
use Rattle.sqlite_schema.specs.declared.schema.Constraint.TheVariants.{Datatype, Unique}
use Rattle.sqlite_schema.specs.Rules.{agree, clashes, differ, are_typed, passes}
use Rattle.sqlite_value.specs.Keys.{first_key, plain}
use Rattle.sqlite_value.proofs.OrderLemmas.{value_cmp-Int}
use Rattle.row_table.specs.Ours.{IsOurs, AreOurs}
use Rattle.row_table.specs.Stored.{stored, whole, count_at, IsStored, IsRowTable, IsRowStore}
use Rattle.row_table.specs.Tables.{row_table, store_schema}
use Rattle.row_table.proofs.Edits.{AreApart, apart_same, moved, mapped}
use Rattle.row_table.proofs.Rising.{each_ours, ours_apart}
use Rattle.row_table.proofs.Tests.{is_same, same_itself, rowid_itself}

-- ---- rowids

abbrev one_if : Bool → ℕ
one_if b = cond b 1 0

add_if : (b : Bool) (n : ℕ) → one_if b + n ≡ cond b (suc n) n
add_if true n = omega arith
add_if false n = omega arith

count_is : (id : ℤ) (rows : List Row) → sum_by (λ r. one_if (has_rowid id r)) rows ≡ count_at id rows
count_is id [] = refl
count_is id (r ∷ rows) = sum_by-cons (λ r. one_if (has_rowid id r)) r rows ∙ ap (λ n. one_if (has_rowid id r) + n) (count_is id rows) ∙ add_if (has_rowid id r) (count_at id rows)

count_whole : (id : ℤ) (rows : List Row) → count_at id (map whole rows) ≡ count_at id rows
count_whole id [] = refl
count_whole id (r ∷ rows) = ap (λ n. cond (has_rowid id r) (suc n) n) (count_whole id rows)

apart_from : (tree rows : List Row) → IsPermutation (map whole tree) rows → AreApart rows → AreApart tree
apart_from tree rows same apart id =
    let n : count_at id rows ≡ count_at id tree =
    sym (count_is id rows) ∙ sum_by-IsPermutation (λ r. one_if (has_rowid id r)) (map whole tree) rows same ∙ count_is id (map whole tree) ∙ count_whole id tree in
    subst (λ k. k ≤ 1) n (apart id)

pub apart_listed : (tree rows : List Row) → IsPermutation (map whole tree) rows → AreApart tree → AreApart rows
apart_listed tree rows same apart id =
    let n : count_at id tree ≡ count_at id rows =
    sym (count_whole id tree) ∙ sym (count_is id (map whole tree)) ∙ sym (sum_by-IsPermutation (λ r. one_if (has_rowid id r)) (map whole tree) rows same) ∙ count_is id rows in
    subst (λ k. k ≤ 1) n (apart id)

-- ---- the shape of a row

abbrev typed : Row → Bool
typed row = are_typed row_table.key 0 row_table.columns (drop 1 row)

pub four : (row : Row) (id : ℤ) (ours : IsOurs id row) → typed row ≡ true → IsStored row
four [] id ours t = absurd (let e = ours.id_is in cc)
four (a ∷ []) id ours t = absurd (let e = ours.kind.1 in cc)
four (a ∷ b ∷ []) id ours t = absurd (let e = ours.key.1 in cc)
four (a ∷ b ∷ c ∷ []) id ours t = absurd (let e = ours.text.1 in cc)
four (a ∷ b ∷ c ∷ d ∷ []) id ours t = (id, ours.kind.0, ours.key.0, ours.text.0, λ i. ours.id_is i ∷ ours.kind.1 i ∷ ours.key.1 i ∷ ours.text.1 i ∷ [])
four (a ∷ b ∷ c ∷ d ∷ e ∷ more) id ours t = absurd (both_ways _ (untyped row_table.key 0 row_table.columns (b ∷ c ∷ d ∷ e ∷ more) (omega arith)) t)

-- ---- kinds and keys

not_ne : (o : Ordering) → is_true (from_truth (Some (is_ne o))) ≡ false → o ≡ Equal
not_ne Less h = absurd (true≢false h)
not_ne Equal h = refl
not_ne Greater h = absurd (true≢false h)

differs : (m n : ℤ) → differ (Int m) (Int n) ≡ false → m ≡ n
unfolding binary
differs m n h = int_cmp-IsAntisymmetric m n (sym (value_cmp-Int m n) ∙ not_ne (value_cmp (Int m) (Int n)) h)

agree_test : (a b : Row) → agree plain (1 ∷ 2 ∷ []) a (1 ∷ 2 ∷ []) b ≡ (is_same (column a 1) (column b 1) && (is_same (column a 2) (column b 2) && true))
unfolding first_key
agree_test a b = refl

-- rows that no other one clashes with, of one kind and key, have one rowid
one_id : (tree : List Row) (a b : Row) (s : IsStored a) (t : IsStored b) → Has tree a → clashes plain (1 ∷ 2 ∷ []) tree b ≡ false → column a 1 ≡ column b 1 → column a 2 ≡ column b 2 → s.0 ≡ t.0
one_id tree a b s t there free p q =
    let kinds : is_same (column a 1) (column b 1) ≡ true = subst (λ v. is_same (column a 1) v ≡ true) p (same_itself (column a 1) (ap (λ r. is_null (column r 1)) s.4)) in
    let keys : is_same (column a 2) (column b 2) ≡ true = subst (λ v. is_same (column a 2) v ≡ true) q (same_itself (column a 2) (ap (λ r. is_null (column r 2)) s.4)) in
    let agrees : agree plain (1 ∷ 2 ∷ []) a (1 ∷ 2 ∷ []) b ≡ true = agree_test a b ∙ and_from _ _ kinds (and_from _ _ keys refl) in
    let not_other : differ (rowid a) (rowid b) ≡ false = false_from_ne_true _ (λ other.
    both_ways _ free (some_from (λ r. agree plain (1 ∷ 2 ∷ []) r (1 ∷ 2 ∷ []) b && differ (rowid r) (rowid b)) tree a there (and_from _ _ agrees other))) in
    differs s.0 t.0 (subst (λ v. differ v (Int t.0) ≡ false) (ap rowid s.4) (subst (λ v. differ (rowid a) v ≡ false) (ap rowid t.4) not_other))

-- the table has rows of the hub alone
known_table : (trees : Trees) → IsDatabase (record { schema = store_schema; trees = trees }) → (rows : List Row) → IsPermutation (map whole (trees 0)) rows → AreOurs rows → IsRowTable (trees 0)
known_table trees sound rows same ours =
    let tree = trees 0 in
    let apart : AreApart tree = apart_from tree rows same (ours_apart None rows ours) in
    let formed : (row : Row) → Has tree row → IsStored row = λ row there.
    let shown = each_ours None rows ours (whole row) (moved (map whole tree) rows (whole row) same (mapped whole tree row there)) in
    let passed : passes Datatype store_schema trees row_table row ≡ true = all_has (λ r. passes Datatype store_schema trees row_table r ≡ true) tree row (sound.obeys.rules Datatype).0 there in
    four row shown.0 (record { id_is = shown.1.id_is; kind = shown.1.kind; key = shown.1.key; text = shown.1.text }) (and_parts _ _ passed).0 in
    record {
      apart = apart;
      formed = formed;
      once = λ a b h k p q.
          let s = formed a h in
          let t = formed b k in
          let passed : passes Unique store_schema trees row_table b ≡ true = all_has (λ r. passes Unique store_schema trees row_table r ≡ true) tree b (sound.obeys.rules Unique).0 k in
          let free : clashes plain (1 ∷ 2 ∷ []) tree b ≡ false = not-true _ (and_parts _ _ passed).0 in
          let ids : s.0 ≡ t.0 = one_id tree a b s t h free p q in
          apart_same tree s.0 a b apart h k (subst (λ r. has_rowid s.0 r ≡ true) (sym s.4) (rowid_itself s.0 s.1 s.2 s.3))
          (subst (λ r. has_rowid s.0 r ≡ true) (sym t.4) (subst (λ i. has_rowid i (stored t.0 t.1 t.2 t.3) ≡ true) (sym ids) (rowid_itself t.0 t.1 t.2 t.3)));
    }

pub known_store : (db : Database) → db.schema ≡ store_schema → IsDatabase db → (rows : List Row) → IsPermutation (map whole (db.trees 0)) rows → AreOurs rows → IsRowStore db
known_store db is sound rows same ours =
    (is, known_table db.trees (subst (λ s. IsDatabase (record { schema = s; trees = db.trees })) is sound) rows same ours)
