-- The rows that the selection shows are those of the table, in order.
use Rattle.std.proofs.Common.{◌≡◌, ◌⊎◌, inl, inr, ℕ, suc, ◌+◌, ◌≤◌, ℤ, pos, negsuc, Bool, true, false, cond, List, [], ◌∷◌, map, slice_index_or, sum_by, Option, Some, None, Ordering, Less, Equal, Greater, refl, sym, ap, subst, ◌∙◌, arith, true≢false, nat_cmp, int_cmp}
use Rattle.std.specs.List.Sorted.{IsPermutation, IsSorted, IsStrictlySortedBy}
use Rattle.std.specs.Ordering.{is_lt, ordering_reverse}
use Rattle.std.specs.Cmp.{IsTotalOrder}
use Rattle.std.specs.Cmp.Lexicographic.{slice_cmp}
use Rattle.std.proofs.lemmas.Bool.{cases_Bool, both_ways, false_from_ne_true}
use Rattle.std.proofs.lemmas.Bool.Decides.{nat_tests}
use Rattle.std.proofs.lemmas.Cmp.{then_total, on_total, nat_cmp_total, nat_list_cmp_total}
use Rattle.std.proofs.lemmas.Int.{ints}
use Rattle.std.proofs.lemmas.List.Sorted.{IsPermutation-map, IsPermutation-sym, sum_by-IsPermutation}
use Rattle.std.proofs.lemmas.List.Sums.{sum_by-cons}
use Rattle.keeper.specs.Rows as rows
use Rattle.keeper.specs.Rows.{Rows, Lists, is_at, row_cmp, after_items, with_text, no_rows}
use Rattle.keeper.specs.RowOrder.{key_exact}
use Rattle.keeper.specs.declared.row_key.RowKey.{RowKey}
use Rattle.keeper.specs.declared.keeper.Item.TheVariants.{Put}
use Rattle.keeper.specs.declared.keeper.Row.{Row as Kept}
use Rattle.sqlite.specs.Order.{Row, column}
use Rattle.sqlite.specs.Query.{Output, output_cmp}
use Rattle.sqlite.specs.Tree.{has_rowid}
use Rattle.sqlite.specs.declared.types.Value.{Value}
use Rattle.sqlite.specs.declared.types.Value.TheVariants.{Null, Int, Real, Text, Blob}
use Rattle.sqlite_rules.specs.Lists.{Has}
use Rattle.sqlite_trees.proofs.ListLemmas.{all_weaker}
use Rattle.sqlite_value.proofs.OrderLemmas.{value_cmp-Int, value_cmp-Text, then-Equal}
use Rattle.row_table.specs.Shown.{shown, front}
use Rattle.row_table.specs.Stored.{stored, rows_of, IsStored, IsRowTable}
use Rattle.row_table.proofs.Words.{listed, in_list, IsListing}
use Rattle.row_table.proofs.Edits.{AreApart, apart_tail, never_again, moved, mapped, unmapped}
use Rattle.row_table.proofs.Tests.{rowid_itself, same_option, at_is, at_itself}
use Rattle.row_table.proofs.Trees.{held, found}

-- what is sorted and shown of a row of the hub
abbrev pub out : Kept → Output
out k = (Int (pos k.kind) ∷ Text k.key ∷ [], shown k)

abbrev pub number_in : Value → ℕ
number_in Null = 0
number_in (Int (pos n)) = n
number_in (Int (negsuc n)) = 0
number_in (Real x) = 0
number_in (Text t) = 0
number_in (Blob b) = 0

abbrev pub bytes_in : Value → List ℕ
bytes_in Null = []
bytes_in (Int n) = []
bytes_in (Real x) = []
bytes_in (Text t) = t
bytes_in (Blob b) = []

-- the row that is shown so
abbrev pub back : Output → Kept
back o = record { kind = number_in (column o.1 0); key = bytes_in (column o.1 1); text = bytes_in (column o.1 2) }

back_all : (all : List Kept) → map back (map out all) ≡ all
back_all [] = refl
back_all (k ∷ all) = ap (λ ks. k ∷ ks) (back_all all)

same_shown : (a b : Kept) → shown a ≡ shown b → a ≡ b
same_shown a b h = ap (λ s. back ([], s)) h

-- the outputs that are shown as these rows
outputs_are : (os : List Output) (all : List Kept) → ((o : Output) → Has os o → (k : Kept) × (o ≡ out k)) → map shown all ≡ map (λ (o : Output). front o.1) os → os ≡ map out all
outputs_are [] [] each h = refl
outputs_are [] (k ∷ all) each h = absurd cc
outputs_are (o ∷ os) [] each h = absurd cc
outputs_are (o ∷ os) (k ∷ all) each h =
    let first = each o (inl refl) in
    let heads : shown k ≡ front o.1 = cc in
    let tails : map shown all ≡ map (λ (o : Output). front o.1) os = cc in
    let same : first.0 ≡ k = sym (same_shown k first.0 (heads ∙ ap (λ (x : Output). front x.1) first.1)) in
    ap (λ x. x ∷ os) (first.1 ∙ ap out same) ∙ ap (λ xs. out k ∷ xs) (outputs_are os all (λ x there. each x (inr there)) tails)

-- the rows of a tree
abbrev pub kept_row : Row → Kept
kept_row r = back (in_list r)

abbrev kept_of : (id : ℤ) (kind : ℕ) (key text : List ℕ) → Kept
kept_of id kind key text = record { kind = kind; key = key; text = text }

pub shown_rows : (tree : List Row) → ((r : Row) → Has tree r → IsStored r) → map in_list tree ≡ map out (map kept_row tree)
shown_rows [] formed = refl
shown_rows (r ∷ tree) formed =
    let s = formed r (inl refl) in
    let first : in_list r ≡ out (kept_row r) = ap in_list s.4 ∙ sym (ap (λ x. out (kept_row x)) s.4) in
    ap (λ x. x ∷ map in_list tree) first ∙ ap (λ xs. out (kept_row r) ∷ xs) (shown_rows tree (λ x there. formed x (inr there)))

-- ---- how many rows stand under a kind and key

abbrev one_if : Bool → ℕ
one_if b = cond b 1 0

abbrev pub here : ℕ → List ℕ → Kept → Bool
here kind key k = is_at kind key k.kind k.key

abbrev pub count : ℕ → List ℕ → List Kept → ℕ
count kind key [] = 0
count kind key (k ∷ ks) = cond (here kind key k) (suc (count kind key ks)) (count kind key ks)

add_if : (b : Bool) (n : ℕ) → one_if b + n ≡ cond b (suc n) n
add_if true n = omega arith
add_if false n = omega arith

count_is : (kind : ℕ) (key : List ℕ) (ks : List Kept) → sum_by (λ k. one_if (here kind key k)) ks ≡ count kind key ks
count_is kind key [] = refl
count_is kind key (k ∷ ks) = sum_by-cons (λ k. one_if (here kind key k)) k ks ∙ ap (λ n. one_if (here kind key k) + n) (count_is kind key ks) ∙ add_if (here kind key k) (count kind key ks)

pub count_moved : (kind : ℕ) (key : List ℕ) (xs ys : List Kept) → IsPermutation xs ys → count kind key ys ≡ count kind key xs
count_moved kind key xs ys same = sym (count_is kind key ys) ∙ sum_by-IsPermutation (λ k. one_if (here kind key k)) xs ys same ∙ count_is kind key xs

-- no kind and key comes twice
abbrev pub AreFew : List Kept → Type 0
AreFew all = (kind : ℕ) (key : List ℕ) → count kind key all ≤ 1

none_there : (kind : ℕ) (key : List ℕ) (rs : List Row) → ((r : Row) → Has rs r → here kind key (kept_row r) ≡ false) → count kind key (map kept_row rs) ≡ 0
none_there kind key [] h = refl
none_there kind key (r ∷ rs) h = rw (h r (inl refl)) (none_there kind key rs (λ x there. h x (inr there)))

pub few_rows : (tree : List Row) → AreApart tree → ((r : Row) → Has tree r → IsStored r)
    → ((a b : Row) → Has tree a → Has tree b → column a 1 ≡ column b 1 → column a 2 ≡ column b 2 → a ≡ b) → AreFew (map kept_row tree)
few_rows [] apart formed once kind key = omega arith
few_rows (r ∷ tree) apart formed once kind key = elim (cases_Bool (here kind key (kept_row r))) [
  | inl at ↦
      let s = formed r (inl refl) in
      let rest : count kind key (map kept_row tree) ≡ 0 = none_there kind key tree (λ x there. false_from_ne_true _ (λ also.
      let n = formed x (inr there) in
      let p = at_is kind key _ _ at in
      let q = at_is kind key _ _ also in
      let kinds : s.1 ≡ n.1 = sym (ap (λ y. (kept_row y).kind) s.4) ∙ sym p.0 ∙ q.0 ∙ ap (λ y. (kept_row y).kind) n.4 in
      let keys : s.2 ≡ n.2 = sym (ap (λ y. (kept_row y).key) s.4) ∙ sym p.1 ∙ q.1 ∙ ap (λ y. (kept_row y).key) n.4 in
      let one : r ≡ x = once r x (inl refl) (inr there) (ap (λ y. column y 1) s.4 ∙ ap (λ k. Int (pos k)) kinds ∙ sym (ap (λ y. column y 1) n.4)) (ap (λ y. column y 2) s.4 ∙ ap Text keys ∙ sym (ap (λ y. column y 2) n.4)) in
      never_again r tree s.0 apart (subst (λ y. has_rowid s.0 y ≡ true) (sym s.4) (rowid_itself s.0 s.1 s.2 s.3)) (subst (Has tree) (sym one) there))) in
      rw (at, rest) (omega arith)
  | inr other ↦ rw other (few_rows tree (apart_tail r tree apart) (λ x there. formed x (inr there)) (λ a b p q. once a b (inr p) (inr q)) kind key)
]

-- ---- the order

pub row_cmp_total : IsTotalOrder row_cmp
row_cmp_total = then_total (on_total (λ (k : Kept). k.kind) nat_cmp_total) (on_total (λ (k : Kept). k.key) nat_list_cmp_total)

int_cmp-pos : (m n : ℕ) → int_cmp (pos m) (pos n) ≡ nat_cmp m n
int_cmp-pos m n = grind (arith, ints, nat_tests)

pub ordered_as : (a b : Kept) → output_cmp listed (out a) (out b) ≡ row_cmp a b
ordered_as a b = rw (value_cmp-Int (pos a.kind) (pos b.kind), int_cmp-pos a.kind b.kind, value_cmp-Text a.key b.key, then-Equal (slice_cmp nat_cmp a.key b.key)) refl

-- each row is not above the next
abbrev pub Rises : List Kept → Type 0
Rises [] = Unit {0}
Rises (a ∷ []) = Unit {0}
Rises (a ∷ b ∷ more) = (is_lt (row_cmp b a) ≡ false) × Rises (b ∷ more)

pub rises_from : (all : List Kept) → IsSorted (output_cmp listed) (map out all) → Rises all
rises_from [] up = tt
rises_from (a ∷ []) up = tt
rises_from (a ∷ b ∷ more) up = (
  ap is_lt (sym (ordered_as b a)) ∙ up 0 (out a) (omega arith) (omega arith),
  rises_from (b ∷ more) (λ k d low high.
      let next : suc k + 1 ≡ suc (k + 1) = omega arith in
      subst (λ n. is_lt (output_cmp listed (slice_index_or (map out (a ∷ b ∷ more)) n d) (slice_index_or (map out (b ∷ more)) k d)) ≡ false) next (up (suc k) d (omega arith) (omega (arith, high)))),
)

not_equal : (a b : Kept) → row_cmp a b ≡ Equal → (a.kind ≡ b.kind) × (a.key ≡ b.key)
not_equal a b h = let p = key_exact (record { kind = a.kind; key = a.key }) (record { kind = b.kind; key = b.key }) h in (ap (λ (k : RowKey). k.kind) p, ap (λ (k : RowKey). k.key) p)

below : (o : Ordering) → is_lt (ordering_reverse o) ≡ false → (o ≡ Equal → ⊥) → o ≡ Less
below Less h n = refl
below Equal h n = absurd (n refl)
below Greater h n = absurd (true≢false h)

fewer : (b : Bool) (n : ℕ) → cond b (suc n) n ≤ 1 → n ≤ 1
fewer true n h = omega (arith, h)
fewer false n h = h

two_many : (a b : Bool) (n : ℕ) → a ≡ true → b ≡ true → cond a (suc (cond b (suc n) n)) (cond b (suc n) n) ≤ 1 → ⊥
two_many true true n p q h = omega (arith, h)
two_many true false n p q h = absurd (true≢false (sym q))
two_many false b n p q h = absurd (true≢false (sym p))

pub strict : (all : List Kept) → AreFew all → Rises all → IsStrictlySortedBy row_cmp all
unfolding IsStrictlySortedBy
strict [] few up = tt
strict (a ∷ []) few up = (tt, tt)
strict (a ∷ b ∷ more) few up =
    let later = strict (b ∷ more) (λ kind key. fewer (here kind key a) (count kind key (b ∷ more)) (few kind key)) up.1 in
    let less : row_cmp a b ≡ Less = below (row_cmp a b) (ap is_lt (sym (row_cmp_total.antisymm b a)) ∙ up.0) (λ tie.
    let same = not_equal a b tie in
    let first : here a.kind a.key a ≡ true = at_itself a.kind a.key in
    let second : here a.kind a.key b ≡ true = subst (λ n. is_at a.kind a.key n b.key ≡ true) same.0 (subst (λ t. is_at a.kind a.key a.kind t ≡ true) same.1 first) in
    two_many (here a.kind a.key a) (here a.kind a.key b) (count a.kind a.key more) first second (few a.kind a.key)) in
    ((less, all_weaker (λ y. row_cmp b y ≡ Less) (λ y. row_cmp a y ≡ Less) (λ y h. row_cmp_total.trans a b y less h) more later.0), later)

-- ---- which rows the list has

abbrev pub row_at : ℕ → List ℕ → List ℕ → Kept
row_at kind key text = record { kind = kind; key = key; text = text }

module _ (kind : ℕ) (key : List ℕ) where
  is_row : (k : Kept) (text : List ℕ) → here k.kind k.key (row_at kind key text) ≡ true → k.text ≡ text → row_at kind key text ≡ k
  is_row k text h e =
      let p = at_is k.kind k.key kind key h in
      ap (λ n. row_at n key text) (sym p.0) ∙ ap (λ t. row_at k.kind t text) (sym p.1) ∙ ap (row_at k.kind k.key) (sym e)

  pub from_list : (all : List Kept) (m : Rows) (text : List ℕ) → after_items (map Put all) m kind key ≡ Some text → Has all (row_at kind key text) ⊎ (m kind key ≡ Some text)
  from_list [] m text h = inr h
  from_list (k ∷ all) m text h = elim (from_list all (with_text k.kind k.key (Some k.text) m) text h) [
    | inl later ↦ inl (inr later)
    | inr now ↦ elim (cases_Bool (is_at k.kind k.key kind key)) [
      | inl at ↦
          let e : k.text ≡ text = let t = rw (at) at now in cc in
          inl (inl (is_row k text at e))
      | inr other ↦ inr (rw other at now)
    ]
  ]

  one_else : (k : Kept) (all : List Kept) (m : Rows) → (count kind key all ≡ 0 → after_items (map Put all) (with_text k.kind k.key (Some k.text) m) kind key ≡ with_text k.kind k.key (Some k.text) m kind key)
      → (b : Bool) → here kind key k ≡ b → cond b (suc (count kind key all)) (count kind key all) ≡ 0 → after_items (map Put (k ∷ all)) m kind key ≡ m kind key
  one_else k all m more true is z = absurd (omega (arith, z))
  one_else k all m more false is z =
      more z
      ∙ ap (λ b. cond b (Some k.text) (m kind key)) (false_from_ne_true _ (λ at. let p = at_is k.kind k.key kind key at in both_ways _ is (subst (λ n. is_at kind key n k.key ≡ true) (sym p.0) (subst (λ t. is_at kind key kind t ≡ true) (sym p.1) (at_itself kind key)))))

  none_else : (all : List Kept) (m : Rows) → count kind key all ≡ 0 → after_items (map Put all) m kind key ≡ m kind key
  none_else [] m h = refl
  none_else (k ∷ all) m h = one_else k all m (none_else all (with_text k.kind k.key (Some k.text) m)) (here kind key k) refl h

  pub in_list_found : (all : List Kept) (m : Rows) (text : List ℕ) → count kind key all ≤ 1 → Has all (row_at kind key text) → after_items (map Put all) m kind key ≡ Some text
  in_list_found [] m text few h = absurd h
  in_list_found (k ∷ all) m text few (inl first) =
      let at : here kind key k ≡ true = subst (λ r. here kind key r ≡ true) first (at_itself kind key) in
      let zero_more : count kind key all ≡ 0 = rest (here kind key k) (count kind key all) at few in
      none_else all (with_text k.kind k.key (Some k.text) m) zero_more
      ∙ ap (λ b. cond b (Some k.text) (m kind key)) (subst (λ r. is_at r.kind r.key kind key ≡ true) first (at_itself kind key))
      ∙ ap (λ (r : Kept). Some r.text) (sym first)
    where
      rest : (b : Bool) (n : ℕ) → b ≡ true → cond b (suc n) n ≤ 1 → n ≡ 0
      rest true n e h = omega (arith, h)
      rest false n e h = absurd (true≢false (sym e))
  in_list_found (k ∷ all) m text few (inr later) = in_list_found all (with_text k.kind k.key (Some k.text) m) text (fewer (here kind key k) (count kind key all) few) later

-- rows of the table that rise by kind and key are all its rows, in order
pub ordered_lists : (tree : List Row) (all : List Kept) → IsRowTable tree → IsPermutation (map kept_row tree) all → Rises all → Lists (rows_of tree) all
ordered_lists tree all table rows_same up =
    let few : AreFew all = λ kind key. subst (λ n. n ≤ 1) (sym (count_moved kind key (map kept_row tree) all rows_same)) (few_rows tree table.apart table.formed table.once kind key) in
    record {
      in_order = strict all few up;
      same = λ kind key. same_option (rows.rows_of all kind key) (rows_of tree kind key)
          (λ text h. elim (from_list kind key all no_rows text h) [
            | inl there ↦
                let from = unmapped kept_row tree _ (moved all (map kept_row tree) _ (IsPermutation-sym _ _ rows_same) there) in
                let s = table.formed from.0 from.1 in
                let is : row_at kind key text ≡ row_at s.1 s.2 s.3 = from.2 ∙ ap kept_row s.4 in
                let id_row : from.0 ≡ stored s.0 kind key text = s.4 ∙ sym (ap (λ (k : Kept). stored s.0 k.kind k.key k.text) is) in
                found kind key text tree table.once (s.0, subst (Has tree) id_row from.1)
            | inr none ↦ absurd (let e : ◌≡◌ {A = Option (List ℕ)} None (Some text) = none in cc)
          ])
          (λ text h.
          let there = held kind key text tree table.formed h in
          in_list_found kind key all no_rows text (few kind key) (moved (map kept_row tree) all _ rows_same (mapped kept_row tree _ there.1)));
    }

pub all_listed : (tree sql : List Row) (all : List Kept) → IsRowTable tree → IsListing tree sql → map shown all ≡ map front sql → Lists (rows_of tree) all
all_listed tree sql all table list same =
    let formed_out : (o : Output) → Has list.ordered o → (k : Kept) × (o ≡ out k) = λ o there.
    let from = unmapped in_list tree o (moved list.ordered (map in_list tree) o (IsPermutation-sym _ _ list.same) there) in
    let s = table.formed from.0 from.1 in
    (row_at s.1 s.2 s.3, from.2 ∙ ap in_list s.4) in
    let shown_same : map shown all ≡ map (λ (o : Output). front o.1) list.ordered = same ∙ ap (map front) list.shown ∙ fronts list.ordered in
    let ordered : list.ordered ≡ map out all = outputs_are list.ordered all formed_out shown_same in
    let outs : IsPermutation (map out (map kept_row tree)) (map out all) = subst (λ x. IsPermutation x (map out all)) (shown_rows tree table.formed) (subst (IsPermutation (map in_list tree)) ordered list.same) in
    let rows_same : IsPermutation (map kept_row tree) all = subst (λ x. IsPermutation x all) (back_all (map kept_row tree)) (subst (IsPermutation (map back (map out (map kept_row tree)))) (back_all all) (IsPermutation-map back _ _ outs)) in
    ordered_lists tree all table rows_same (rises_from all (subst (IsSorted (output_cmp listed)) ordered list.sorted))
  where
    fronts : (os : List Output) → map front (map (λ (o : Output). o.1) os) ≡ map (λ (o : Output). front o.1) os
    fronts [] = refl
    fronts (o ∷ os) = ap (λ xs. front o.1 ∷ xs) (fronts os)
