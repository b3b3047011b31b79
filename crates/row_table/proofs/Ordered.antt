-- Of a store of the hub the rows come in the order of their rowids.
use Rattle.std.proofs.Common.{◌≡◌, ◌≤◌, ◌+◌, inl, inr, suc, ℕ, ℤ, int_lt, int_cmp, Bool, true, false, cond, List, [], ◌∷◌, map, slice_index_or, Some, Equal, refl, sym, ap, subst, ◌∙◌, arith, true≢false}
use Rattle.std.specs.List.Sorted.{IsSorted, IsPermutation}
use Rattle.std.specs.Ordering.{is_lt}
use Rattle.std.proofs.lemmas.Bool.Decides.{nat_tests}
use Rattle.std.proofs.lemmas.Int.{ints}
use Rattle.std.proofs.lemmas.List.Sorted.{IsPermutation-sym}
use Rattle.sqlite.specs.Order.{Row, column}
use Rattle.sqlite.specs.Query.{Output, output_cmp}
use Rattle.sqlite.specs.Tree.{has_rowid}
use Rattle.sqlite.specs.declared.types.Value.TheVariants.{Int}
use Rattle.sqlite_rules.specs.Lists.{Has}
use Rattle.sqlite_value.proofs.OrderLemmas.{value_cmp-Int, then-Equal}
use Rattle.row_table.specs.Ours.{IsOurs, AreOursAbove, AreOurs}
use Rattle.row_table.specs.Stored.{stored, whole, count_at, IsRowTable}
use Rattle.row_table.proofs.Edits.{AreApart, apart_tail, moved, unmapped}
use Rattle.row_table.proofs.Found.{apart_listed}
use Rattle.row_table.proofs.Tests.{rowid_itself}
use Rattle.row_table.proofs.Upsert.{by_rowid}

-- what is sorted and shown of a row
abbrev pub by_id : Row → Output
by_id row = (column row 0 ∷ [], whole row)

abbrev shown_of : List Output → List Row
shown_of os = map (λ (o : Output). o.1) os

-- it is that of a row of the hub
abbrev IsOut : Output → Type 0
IsOut o = (id : ℤ) × (kind : ℕ) × (key : List ℕ) × (text : List ℕ) × (o ≡ by_id (stored id kind key text))

ours_of : (o : Output) (is : IsOut o) → IsOurs is.0 o.1
ours_of o is = record {
  id_is = ap (λ (x : Output). column x.1 0) is.4;
  kind = (is.1, ap (λ (x : Output). column x.1 1) is.4);
  key = (is.2, ap (λ (x : Output). column x.1 2) is.4);
  text = (is.3, ap (λ (x : Output). column x.1 3) is.4);
}

next_above : (m n : ℤ) → is_lt (int_cmp n m) ≡ false → ¬ (m ≡ n) → int_lt m n ≡ true
next_above m n p q = grind (arith, ints, nat_tests)

ordered_as : (m n : ℤ) (a b : Output) → column a.0 0 ≡ Int m → column b.0 0 ≡ Int n → output_cmp by_rowid a b ≡ int_cmp m n
ordered_as m n a b p q = rw (p, q, value_cmp-Int m n, then-Equal (int_cmp m n)) refl

sorted_tail : (o : Output) (os : List Output) → IsSorted (output_cmp by_rowid) (o ∷ os) → IsSorted (output_cmp by_rowid) os
sorted_tail o os up k d low high =
    let next : suc k + 1 ≡ suc (k + 1) = omega arith in
    subst (λ n. is_lt (output_cmp by_rowid (slice_index_or (o ∷ os) n d) (slice_index_or os k d)) ≡ false) next (up (suc k) d (omega arith) (omega (arith, high)))

-- those after an output are above its rowid
ours_after : (o : Output) (is : IsOut o) (os : List Output) → ((x : Output) → Has os x → IsOut x) → IsSorted (output_cmp by_rowid) (o ∷ os) → AreApart (shown_of (o ∷ os)) → AreOursAbove (Some is.0) (shown_of os)
ours_after o is [] each up apart = tt
ours_after o is (x ∷ os) each up apart =
    let it = each x (inl refl) in
    let not_below : is_lt (int_cmp it.0 is.0) ≡ false =
    ap is_lt (sym (ordered_as it.0 is.0 x o (ap (λ (y : Output). column y.0 0) it.4) (ap (λ (y : Output). column y.0 0) is.4))) ∙ up 0 o (omega arith) (omega arith) in
    let other : ¬ (is.0 ≡ it.0) = λ same.
    let first : has_rowid is.0 o.1 ≡ true = subst (λ (y : Output). has_rowid is.0 y.1 ≡ true) (sym is.4) (rowid_itself is.0 is.1 is.2 is.3) in
    let second : has_rowid is.0 x.1 ≡ true = subst (λ i. has_rowid i x.1 ≡ true) (sym same) (subst (λ (y : Output). has_rowid it.0 y.1 ≡ true) (sym it.4) (rowid_itself it.0 it.1 it.2 it.3)) in
    two_there is.0 o.1 x.1 (shown_of os) apart first second in
    (it.0, ours_of x it, next_above is.0 it.0 not_below other, ours_after x it os (λ y there. each y (inr there)) (sorted_tail o (x ∷ os) up) (apart_tail o.1 (shown_of (x ∷ os)) apart))
  where
    both_there : (a b : Bool) (n : ℕ) → a ≡ true → b ≡ true → cond a (suc (cond b (suc n) n)) (cond b (suc n) n) ≤ 1 → ⊥
    both_there true true n p q h = omega (arith, h)
    both_there true false n p q h = absurd (true≢false (sym q))
    both_there false b n p q h = absurd (true≢false (sym p))

    two_there : (id : ℤ) (a b : Row) (rows : List Row) → AreApart (a ∷ b ∷ rows) → has_rowid id a ≡ true → has_rowid id b ≡ true → ⊥
    two_there id a b rows apart p q = both_there (has_rowid id a) (has_rowid id b) (count_at id rows) p q (apart id)

outs_ours : (os : List Output) → ((x : Output) → Has os x → IsOut x) → IsSorted (output_cmp by_rowid) os → AreApart (shown_of os) → AreOurs (shown_of os)
outs_ours [] each up apart = tt
outs_ours (o ∷ os) each up apart =
    let is = each o (inl refl) in
    (is.0, ours_of o is, tt, ours_after o is os (λ y there. each y (inr there)) up apart)

pub listed_ours : (tree : List Row) (ordered : List Output) → IsRowTable tree → IsPermutation (map by_id tree) ordered → IsPermutation (map whole tree) (shown_of ordered) → IsSorted (output_cmp by_rowid) ordered
    → AreOurs (shown_of ordered)
listed_ours tree ordered table same shown up =
    outs_ours ordered
    (λ o there.
    let from = unmapped by_id tree o (moved ordered (map by_id tree) o (IsPermutation-sym _ _ same) there) in
    let s = table.formed from.0 from.1 in
    (s.0, s.1, s.2, s.3, from.2 ∙ ap by_id s.4))
    up
    (apart_listed tree (shown_of ordered) shown table.apart)
