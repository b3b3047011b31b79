-- What is in a tree after an edit.
use Rattle.std.proofs.Common.{◌≡◌, ◌≤◌, inl, inr, ℕ, suc, ℤ, Bool, true, false, not, cond, List, [], ◌∷◌, map, filter, Ordering, Less, Equal, Greater, refl, sym, ap, subst, ◌∙◌, arith, true≢false}
use Rattle.std.specs.List.Sorted.{IsPermutation}
use Rattle.std.specs.Ordering.{is_eq, match_ordering}
use Rattle.std.proofs.lemmas.Bool.{and_parts, or_parts, not-true, both_ways, false_from_ne_true}
use Rattle.std.proofs.lemmas.Cmp.{tied_back}
use Rattle.std.proofs.lemmas.List.Sorted.{Contains-permutation}
use Rattle.sqlite.specs.Edit.{without_all, put_all, is_taken, are_fresh}
use Rattle.sqlite.specs.Order.{Row, value_cmp}
use Rattle.sqlite.specs.Tree.{rowid, has_rowid, without_rowid, put_row}
use Rattle.sqlite.specs.declared.types.Value.TheVariants.{Int}
use Rattle.sqlite_rules.specs.Lists.{Has}
use Rattle.sqlite_rules.proofs.ListLemmas.{has_filtered, has_kept, has_contained, contains_had, some_from}
use Rattle.sqlite_rules.proofs.TableLemmas.{without_all_has}
use Rattle.sqlite_value.proofs.OrderLemmas.{value_cmp_total}
use Rattle.row_table.specs.Stored.{count_at}
use Rattle.row_table.proofs.Tests.{equal_is}

pub moved : {X : Type 0} (xs ys : List X) (x : X) → IsPermutation xs ys → Has xs x → Has ys x
moved xs ys x same h = has_contained ys x (Contains-permutation xs ys x same (contains_had xs x h))

pub mapped : {X Y : Type 0} (f : X → Y) (xs : List X) (x : X) → Has xs x → Has (map f xs) (f x)
mapped f [] x h = absurd h
mapped f (y ∷ xs) x (inl same) = inl (ap f same)
mapped f (y ∷ xs) x (inr later) = inr (mapped f xs x later)

pub unmapped : {X Y : Type 0} (f : X → Y) (xs : List X) (y : Y) → Has (map f xs) y → (x : X) × Has xs x × (y ≡ f x)
unmapped f [] y h = absurd h
unmapped f (x ∷ xs) y (inl same) = (x, inl refl, same)
unmapped f (x ∷ xs) y (inr later) = let more = unmapped f xs y later in (more.0, inr more.1, more.2)

-- ---- rowids that come once

abbrev pub AreApart : List Row → Type 0
AreApart rows = (id : ℤ) → count_at id rows ≤ 1

pub counts_more : (b : Bool) (n : ℕ) → n ≤ cond b (suc n) n
counts_more true n = omega arith
counts_more false n = omega arith

pub count_some : (id : ℤ) (rows : List Row) (x : Row) → Has rows x → has_rowid id x ≡ true → 1 ≤ count_at id rows
count_some id [] x h is = absurd h
count_some id (r ∷ rows) x (inl same) is = subst (λ b. 1 ≤ cond b (suc (count_at id rows)) (count_at id rows)) (sym (ap (has_rowid id) (sym same) ∙ is)) (omega arith)
count_some id (r ∷ rows) x (inr later) is = let some = count_some id rows x later is in let more = counts_more (has_rowid id r) (count_at id rows) in omega (arith, some, more)

pub count_none : (id : ℤ) (rows : List Row) → ((x : Row) → Has rows x → has_rowid id x ≡ false) → count_at id rows ≡ 0
count_none id [] h = refl
count_none id (r ∷ rows) h = rw (h r (inl refl)) (count_none id rows (λ x there. h x (inr there)))

pub fewer : (b : Bool) (n : ℕ) → cond b (suc n) n ≤ 1 → n ≤ 1
fewer true n h = omega (arith, h)
fewer false n h = h

pub apart_tail : (r : Row) (rows : List Row) → AreApart (r ∷ rows) → AreApart rows
apart_tail r rows apart id = fewer (has_rowid id r) (count_at id rows) (apart id)

pub never_two : (b : Bool) (n : ℕ) → b ≡ true → 1 ≤ n → cond b (suc n) n ≤ 1 → ⊥
never_two true n is some h = omega (arith, some, h)
never_two false n is some h = absurd cc

-- rows with one rowid are one
pub apart_same : (rows : List Row) (id : ℤ) (a b : Row) → AreApart rows → Has rows a → Has rows b → has_rowid id a ≡ true → has_rowid id b ≡ true → a ≡ b
apart_same [] id a b apart h k p q = absurd h
apart_same (r ∷ rows) id a b apart (inl h) (inl k) p q = h ∙ sym k
apart_same (r ∷ rows) id a b apart (inl h) (inr k) p q = absurd (never_two (has_rowid id r) (count_at id rows) (ap (has_rowid id) (sym h) ∙ p) (count_some id rows b k q) (apart id))
apart_same (r ∷ rows) id a b apart (inr h) (inl k) p q = absurd (never_two (has_rowid id r) (count_at id rows) (ap (has_rowid id) (sym k) ∙ q) (count_some id rows a h p) (apart id))
apart_same (r ∷ rows) id a b apart (inr h) (inr k) p q = apart_same rows id a b (apart_tail r rows apart) h k p q

keeps_more : (b c : Bool) (m n : ℕ) → m ≤ n → cond c (cond b (suc m) m) m ≤ cond b (suc n) n
keeps_more true true m n h = omega (arith, h)
keeps_more false true m n h = h
keeps_more true false m n h = omega (arith, h)
keeps_more false false m n h = h

count_if : (id : ℤ) (r : Row) (rows : List Row) (c : Bool) → count_at id (cond c (r ∷ rows) rows) ≡ cond c (cond (has_rowid id r) (suc (count_at id rows)) (count_at id rows)) (count_at id rows)
count_if id r rows true = refl
count_if id r rows false = refl

count_filter : (p : Row → Bool) (id : ℤ) (rows : List Row) → count_at id (filter p rows) ≤ count_at id rows
count_filter p id [] = omega arith
count_filter p id (r ∷ rows) =
    subst (λ n. n ≤ count_at id (r ∷ rows)) (sym (count_if id r (filter p rows) (p r))) (keeps_more (has_rowid id r) (p r) (count_at id (filter p rows)) (count_at id rows) (count_filter p id rows))

pub without_all_apart : (ids : List ℤ) (rows : List Row) → AreApart rows → AreApart (without_all rows ids)
without_all_apart [] rows apart = apart
without_all_apart (i ∷ ids) rows apart = without_all_apart ids (without_rowid i rows) (λ id. let less = count_filter (λ r. not (has_rowid i r)) id rows in let few = apart id in omega (arith, less, few))

-- a row that is in a list comes no second time in it
pub never_again : (r : Row) (rows : List Row) (id : ℤ) → AreApart (r ∷ rows) → has_rowid id r ≡ true → Has rows r → ⊥
never_again r rows id apart is h = never_two (has_rowid id r) (count_at id rows) is (count_some id rows r h is) (apart id)

abbrev Put : Ordering → Row → Row → List Row → List Row
Put o new r rows = match_ordering o (r ∷ put_row new rows) (new ∷ rows) (new ∷ r ∷ rows)

pub swapped : (a b : Bool) (n : ℕ) → cond a (suc (cond b (suc n) n)) (cond b (suc n) n) ≡ cond b (suc (cond a (suc n) n)) (cond a (suc n) n)
swapped true true n = refl
swapped true false n = refl
swapped false true n = refl
swapped false false n = refl

-- a row that is put at a free rowid is one more
count_put : (id : ℤ) (new : Row) (rows : List Row) → is_taken rows new ≡ false → count_at id (put_row new rows) ≡ cond (has_rowid id new) (suc (count_at id rows)) (count_at id rows)
count_put id new [] free = refl
count_put id new (r ∷ rows) free = go (value_cmp (rowid r) (rowid new)) (or_parts _ _ free).0 (count_put id new rows (or_parts _ _ free).1)
  where
    go : (o : Ordering) → is_eq o ≡ false → count_at id (put_row new rows) ≡ cond (has_rowid id new) (suc (count_at id rows)) (count_at id rows)
        → count_at id (Put o new r rows) ≡ cond (has_rowid id new) (suc (count_at id (r ∷ rows))) (count_at id (r ∷ rows))
    go Less other later = ap (λ n. cond (has_rowid id r) (suc n) n) later ∙ swapped (has_rowid id r) (has_rowid id new) (count_at id rows)
    go Equal other later = absurd (true≢false other)
    go Greater other later = refl

none_taken : (id : ℤ) (new : Row) (rows : List Row) → is_taken rows new ≡ false → has_rowid id new ≡ true → count_at id rows ≡ 0
none_taken id new rows free at = count_none id rows (λ x there. false_from_ne_true _ (λ is.
    let first : value_cmp (rowid x) (Int id) ≡ Equal = equal_is _ is in
    let second : value_cmp (rowid new) (Int id) ≡ Equal = equal_is _ at in
    let tie : value_cmp (rowid x) (rowid new) ≡ Equal = value_cmp_total.congr (rowid x) (Int id) (rowid new) first ∙ tied_back value_cmp_total (rowid new) (Int id) second in
    both_ways _ free (some_from (λ r. is_eq (value_cmp (rowid r) (rowid new))) rows x there (ap is_eq tie))))

pub one_more : (b : Bool) (n : ℕ) → (b ≡ true → n ≡ 0) → n ≤ 1 → cond b (suc n) n ≤ 1
one_more true n none h = let z = none refl in omega (arith, z)
one_more false n none h = h

pub put_all_apart : (news rows : List Row) → are_fresh rows news ≡ true → AreApart rows → AreApart (put_all rows news)
put_all_apart [] rows fresh apart = apart
put_all_apart (n ∷ news) rows fresh apart =
    let parts = and_parts _ _ fresh in
    let free = not-true _ parts.0 in
    put_all_apart news (put_row n rows) parts.1 (λ id. subst (λ k. k ≤ 1) (sym (count_put id n rows free)) (one_more (has_rowid id n) (count_at id rows) (none_taken id n rows free) (apart id)))

pub dropped : (ids : List ℤ) (rows : List Row) (id : ℤ) (x : Row) → Has ids id → Has (without_all rows ids) x → has_rowid id x ≡ false
dropped [] rows id x h k = absurd h
dropped (i ∷ ids) rows id x (inl same) k = rw same (not-true _ (has_filtered _ rows x (without_all_has ids (without_rowid i rows) x k)).1)
dropped (i ∷ ids) rows id x (inr later) k = dropped ids (without_rowid i rows) id x later k

pub stays : (ids : List ℤ) (rows : List Row) (x : Row) → ((id : ℤ) → Has ids id → has_rowid id x ≡ false) → Has rows x → Has (without_all rows ids) x
stays [] rows x other h = h
stays (i ∷ ids) rows x other h = stays ids (without_rowid i rows) x (λ id there. other id (inr there)) (has_kept _ rows x h (ap not (other i (inl refl))))
