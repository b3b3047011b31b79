-- Rows whose rowids rise.
use Rattle.std.proofs.Common.{◌≡◌, ◌<◌, ◌+◌, inl, inr, ℕ, ℤ, length, drop, slice_index_or, int_lt, int_cmp, true, false, List, [], ◌∷◌, Option, Some, None, sym, subst, ◌∙◌, arith}
use Rattle.std.proofs.lemmas.Bool.{both_ways, false_from_ne_true}
use Rattle.std.proofs.lemmas.Bool.Decides.{nat_tests}
use Rattle.std.proofs.lemmas.Int.{ints}
use Rattle.std.proofs.lemmas.List.{drop_more}
use Rattle.std.specs.Ordering.{is_eq}
use Rattle.std.specs.FinMap.{int_cmp-IsAntisymmetric}
use Rattle.sqlite.specs.Order.{Row, column, value_cmp}
use Rattle.sqlite.specs.Tree.{has_rowid}
use Rattle.sqlite.specs.declared.types.Value.TheVariants.{Int}
use Rattle.sqlite_rules.specs.Lists.{Has}
use Rattle.sqlite_value.proofs.OrderLemmas.{value_cmp-Int}
use Rattle.row_table.specs.Ours.{IsOurs, IsAbove, AreOursAbove}
use Rattle.row_table.specs.Stored.{count_at}
use Rattle.row_table.proofs.Edits.{AreApart, count_none, one_more}
use Rattle.row_table.proofs.Tests.{equal_is}

-- the rowid of a row
id_at : (id other : ℤ) (row : Row) → column row 0 ≡ Int id → has_rowid other row ≡ true → id ≡ other
id_at id other row is h = int_cmp-IsAntisymmetric id other (sym (value_cmp-Int id other) ∙ equal_is _ (subst (λ v. is_eq (value_cmp v (Int other)) ≡ true) is h))

not_itself : (n : ℤ) → int_lt n n ≡ false
not_itself n = grind (arith, ints, nat_tests)

higher : (k m n : ℤ) → int_lt k m ≡ true → int_lt m n ≡ true → int_lt k n ≡ true
higher k m n p q = grind (arith, ints, nat_tests)

above_too : (last : Option ℤ) (m n : ℤ) → IsAbove last m → int_lt m n ≡ true → IsAbove last n
above_too None m n above up = tt
above_too (Some last) m n above up = higher last m n above up

-- each of the rows is one of the hub's, above the last one
pub each_ours : (last : Option ℤ) (rows : List Row) → AreOursAbove last rows → (row : Row) → Has rows row → (id : ℤ) × IsOurs id row × IsAbove last id
each_ours last [] ours row h = absurd h
each_ours last (r ∷ rows) ours row (inl same) = (ours.0, subst (IsOurs ours.0) (sym same) ours.1, ours.2)
each_ours last (r ∷ rows) ours row (inr later) =
    let one = each_ours (Some ours.0) rows ours.3 row later in
    (one.0, one.1, above_too last ours.0 one.0 ours.2 one.2)

-- no rowid comes twice
pub ours_apart : (last : Option ℤ) (rows : List Row) → AreOursAbove last rows → AreApart rows
ours_apart last [] ours k = omega arith
ours_apart last (r ∷ rows) ours k =
    one_more (has_rowid k r) (count_at k rows)
    (λ at. count_none k rows (λ y there. false_from_ne_true _ (λ also.
    let later = each_ours (Some ours.0) rows ours.3 y there in
    let first : ours.0 ≡ k = id_at ours.0 k r ours.1.id_is at in
    let second : later.0 ≡ k = id_at later.0 k y later.1.id_is also in
    both_ways _ (not_itself ours.0) (subst (λ i. int_lt ours.0 i ≡ true) (second ∙ sym first) later.2))))
    (ours_apart (Some ours.0) rows ours.3 k)

-- ---- one row after the other

module _ (rows : List Row) (i : ℕ) (x : Row) (last : Option ℤ) (lt : i < length rows) (is : x ≡ slice_index_or rows i x) where
  pub head_ours : AreOursAbove last (drop i rows) → (id : ℤ) × IsOurs id x × IsAbove last id × AreOursAbove (Some id) (drop (i + 1) rows)
  head_ours h =
      let all : AreOursAbove last (slice_index_or rows i x ∷ drop (i + 1) rows) = subst (AreOursAbove last) (drop_more rows i x lt) h in
      (all.0, subst (IsOurs all.0) (sym is) all.1, all.2, all.3)
