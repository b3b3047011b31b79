-- All rows of the table, in order, are an answer of the selection.
use Rattle.std.proofs.Common.{◌≡◌, ◌≤◌, inl, inr, ℕ, zero, suc, ◌+◌, nat_le, true, false, cond, List, [], ◌∷◌, length, map, flat_map, slice_index_or, Option, Some, None, Result, Ok, Err, Ordering, Less, Equal, IsTrue, refl, sym, ap, subst, ◌∙◌, arith, nat_cmp}
use Rattle.std.specs.List.{AllByRecursion}
use Rattle.std.specs.List.Sorted.{IsPermutation, IsSorted, IsStrictlySortedBy}
use Rattle.std.specs.Cmp.Lexicographic.{slice_cmp}
use Rattle.std.specs.Ordering.{is_lt, ordering_reverse, ordering_then}
use Rattle.std.proofs.lemmas.Bool.{false_from_ne_true}
use Rattle.std.proofs.lemmas.Bool.Decides.{nat_tests}
use Rattle.std.proofs.lemmas.Cmp.{tied_itself}
use Rattle.std.proofs.lemmas.List.Sorted.{IsPermutation-refl, IsPermutation-sym, IsPermutation-trans, IsPermutation-cons, IsPermutation-middle, IsPermutation-map}
use Rattle.keeper.specs.Rows.{Lists, row_cmp, no_rows}
use Rattle.keeper.specs.declared.keeper.Row.{Row as Kept}
use Rattle.sqlite.specs.Effect.{Answers, Reads}
use Rattle.sqlite.specs.Given.{IsPlain}
use Rattle.sqlite.specs.Listing.{understood, reads_listing, IsSourceOf}
use Rattle.sqlite.specs.Order.{Row}
use Rattle.sqlite.specs.Program.{overlay}
use Rattle.sqlite.specs.Query.{IsAnswerAs, Output, output, output_cmp}
use Rattle.sqlite.specs.Command.{Command}
use Rattle.sqlite.specs.Clock.{timed}
use Rattle.sqlite.specs.Schema.{Schema}
use Rattle.sqlite.specs.State.{State, IsUnchanged, ShowsRows, Shown}
use Rattle.sqlite.specs.Tree.{Trees}
use Rattle.sqlite.specs.declared.types.Value.{Value}
use Rattle.sqlite.proofs.Callers.{command_of}
use Rattle.sqlite_resolve.specs.declared.compiled.Compiled.{Compiled}
use Rattle.sqlite_resolve.specs.declared.error.CompileError.{CompileError}
use Rattle.sqlite_rules.specs.Lists.{Has}
use Rattle.sqlite_tied.specs.Compute.{everything}
use Rattle.sqlite_typing.specs.Types.{accepts_program}
use Rattle.row_table.specs.Shown.{shown, front, behind, IsInOrder}
use Rattle.row_table.specs.Stored.{stored, whole, rows_of, IsRowTable, IsRowStore}
use Rattle.row_table.specs.Tables.{store_schema}
use Rattle.row_table.specs.Texts.{select_text}
use Rattle.row_table.proofs.Words.{listed}
use Rattle.row_table.proofs.Edits.{moved, mapped, unmapped, counts_more, fewer, never_two, one_more}
use Rattle.row_table.proofs.Lists.{alone, all_rows}
use Rattle.row_table.proofs.Loaded.{out, back, kept_row, shown_rows, here, count, count_moved, AreFew, row_cmp_total, ordered_as, Rises, row_at, from_list, in_list_found, ordered_lists, few_rows}
use Rattle.row_table.proofs.Tests.{at_is, at_itself}
use Rattle.row_table.proofs.Trees.{held, found}
use Rattle.row_table.proofs.Upsert.{select_is, select_plain, select_unlisted}

-- ---- lists of the same rows

pulled : {X : Type 0} (xs : List X) (x : X) → Has xs x → (rest : List X) × IsPermutation xs (x ∷ rest)
pulled [] x h = absurd h
pulled (y ∷ xs) x (inl same) = (xs, subst (λ z. IsPermutation (y ∷ xs) (z ∷ xs)) (sym same) (IsPermutation-refl (y ∷ xs)))
pulled (y ∷ xs) x (inr later) =
    let more = pulled xs x later in
    (y ∷ more.0, IsPermutation-trans _ _ _ (IsPermutation-cons y xs (x ∷ more.0) more.1) (IsPermutation-middle (y ∷ []) x more.0))

not_first : {X : Type 0} (x k : X) (rest : List X) → Has (x ∷ rest) k → (k ≡ x → ⊥) → Has rest k
not_first x k rest (inl same) other = absurd (other same)
not_first x k rest (inr later) other = later

count_some : (all : List Kept) (k : Kept) → Has all k → 1 ≤ count k.kind k.key all
count_some [] k h = absurd h
count_some (a ∷ all) k (inl same) =
    let at : here k.kind k.key a ≡ true = subst (λ x. here k.kind k.key x ≡ true) same (at_itself k.kind k.key) in
    subst (λ b. 1 ≤ cond b (suc (count k.kind k.key all)) (count k.kind k.key all)) (sym at) (omega arith)
count_some (a ∷ all) k (inr later) =
    let some = count_some all k later in
    let more = counts_more (here k.kind k.key a) (count k.kind k.key all) in
    omega (arith, some, more)

never_again : (k : Kept) (all : List Kept) → AreFew (k ∷ all) → Has all k → ⊥
never_again k all few there = never_two (here k.kind k.key k) (count k.kind k.key all) (at_itself k.kind k.key) (count_some all k there) (few k.kind k.key)

-- lists that have the same rows, each of them once
same_members : (xs ys : List Kept) → AreFew xs → AreFew ys → ((k : Kept) → Has xs k → Has ys k) → ((k : Kept) → Has ys k → Has xs k) → IsPermutation xs ys
same_members [] [] few_x few_y to from = IsPermutation-refl []
same_members [] (y ∷ ys) few_x few_y to from = absurd (from y (inl refl))
same_members (x ∷ xs) ys few_x few_y to from =
    let it = pulled ys x (to x (inl refl)) in
    let zs = it.0 in
    let few_z : AreFew (x ∷ zs) = λ kind key. subst (λ n. n ≤ 1) (sym (count_moved kind key ys (x ∷ zs) it.1)) (few_y kind key) in
    let rest = same_members xs zs
    (λ kind key. fewer (here kind key x) (count kind key xs) (few_x kind key))
    (λ kind key. fewer (here kind key x) (count kind key zs) (few_z kind key))
    (λ k there. not_first x k zs (moved ys (x ∷ zs) k it.1 (to k (inr there))) (λ same. never_again x xs few_x (subst (Has xs) same there)))
    (λ k there. not_first x k xs (from k (moved (x ∷ zs) ys k (IsPermutation-sym ys (x ∷ zs) it.1) (inr there))) (λ same. never_again x zs few_z (subst (Has zs) same there))) in
    IsPermutation-trans (x ∷ xs) (x ∷ zs) ys (IsPermutation-cons x xs zs rest) (IsPermutation-sym ys (x ∷ zs) it.1)

-- ---- rows in order

tie : (a b : Kept) → a.kind ≡ b.kind → a.key ≡ b.key → row_cmp a b ≡ Equal
tie a b p q =
    subst (λ n. ordering_then (nat_cmp a.kind n) (slice_cmp nat_cmp a.key b.key) ≡ Equal) p
    (subst (λ t. ordering_then (nat_cmp a.kind a.kind) (slice_cmp nat_cmp a.key t) ≡ Equal) q (tied_itself row_cmp_total a))

never_less : (o : Ordering) → o ≡ Equal → o ≡ Less → ⊥
never_less o p q = let e : ◌≡◌ {A = Ordering} Equal Less = sym p ∙ q in cc

none_above : (kind : ℕ) (key : List ℕ) (a : Kept) (all : List Kept) → here kind key a ≡ true → AllByRecursion (λ y. row_cmp a y ≡ Less) all → count kind key all ≡ 0
none_above kind key a [] at above = refl
none_above kind key a (b ∷ all) at above =
    let other : here kind key b ≡ false = false_from_ne_true _ (λ also.
    let p = at_is kind key a.kind a.key at in
    let q = at_is kind key b.kind b.key also in
    never_less (row_cmp a b) (tie a b (sym p.0 ∙ q.0) (sym p.1 ∙ q.1)) above.0) in
    rw other (none_above kind key a all at above.1)

few_sorted : (all : List Kept) → IsStrictlySortedBy row_cmp all → AreFew all
unfolding IsStrictlySortedBy
few_sorted [] up kind key = omega arith
few_sorted (a ∷ all) up kind key = one_more (here kind key a) (count kind key all) (λ at. none_above kind key a all at up.0) (few_sorted all up.1 kind key)

sorted_outs : (all : List Kept) → IsStrictlySortedBy row_cmp all → IsSorted (output_cmp listed) (map out all)
unfolding IsStrictlySortedBy
sorted_outs [] up k d low high = absurd (omega (arith, high))
sorted_outs (a ∷ []) up k d low high = absurd (omega (arith, high))
sorted_outs (a ∷ b ∷ more) up zero d low high = ap is_lt (ordered_as b a ∙ row_cmp_total.antisymm b a ∙ ap ordering_reverse up.0.0)
sorted_outs (a ∷ b ∷ more) up (suc k) d low high =
    let next : suc k + 1 ≡ suc (k + 1) = omega arith in
    subst (λ n. is_lt (output_cmp listed (slice_index_or (map out (a ∷ b ∷ more)) n d) (slice_index_or (map out (b ∷ more)) k d)) ≡ false) (sym next)
    (sorted_outs (b ∷ more) up.1 k d (omega arith) (omega (arith, high)))

rises_by : (all : List Kept) → IsSorted row_cmp all → Rises all
rises_by [] up = tt
rises_by (a ∷ []) up = tt
rises_by (a ∷ b ∷ more) up = (
  up 0 a (omega arith) (omega arith),
  rises_by (b ∷ more) (λ k d low high.
      let next : suc k + 1 ≡ suc (k + 1) = omega arith in
      subst (λ n. is_lt (row_cmp (slice_index_or (a ∷ b ∷ more) n d) (slice_index_or (b ∷ more) k d)) ≡ false) next (up (suc k) d (omega arith) (omega (arith, high)))),
)

-- ---- all rows of a table

module _ (tree : List Row) (all : List Kept) (table : IsRowTable tree) (lists : Lists (rows_of tree) all) where
  in_all : (few : AreFew all) (k : Kept) → Has (map kept_row tree) k → Has all k
  in_all few k there =
      let from = unmapped kept_row tree k there in
      let s = table.formed from.0 from.1 in
      let is : k ≡ row_at s.1 s.2 s.3 = from.2 ∙ ap kept_row s.4 in
      let id_row : from.0 ≡ stored s.0 k.kind k.key k.text = s.4 ∙ sym (ap (λ (x : Kept). stored s.0 x.kind x.key x.text) is) in
      let text : rows_of tree k.kind k.key ≡ Some k.text = found k.kind k.key k.text tree table.once (s.0, subst (Has tree) id_row from.1) in
      elim (from_list k.kind k.key all no_rows k.text (lists.same k.kind k.key ∙ text)) [
        | inl it ↦ it
        | inr none ↦ absurd (let e : ◌≡◌ {A = Option (List ℕ)} None (Some k.text) = none in cc)
      ]

  in_tree : (few : AreFew all) (k : Kept) → Has all k → Has (map kept_row tree) k
  in_tree few k there =
      let text = in_list_found k.kind k.key all no_rows k.text (few k.kind k.key) there in
      mapped kept_row tree _ (held k.kind k.key k.text tree table.formed (sym (lists.same k.kind k.key) ∙ text)).1

  all_there : IsPermutation (map kept_row tree) all
  all_there =
      let few = few_sorted all lists.in_order in
      same_members (map kept_row tree) all (few_rows tree table.apart table.formed table.once) few (in_all few) (in_tree few)

-- ---- the selection

shown_outs : (all : List Kept) → map (λ (o : Output). o.1) (map out all) ≡ map shown all
shown_outs [] = refl
shown_outs (k ∷ all) = ap (λ rows. shown k ∷ rows) (shown_outs all)

-- they are an answer
answered : (trees : Trees) (all : List Kept) → IsRowTable (trees 0) → Lists (rows_of (trees 0)) all → (lost : Value) → IsAnswerAs lost listed (overlay trees []) [] (map shown all)
answered trees all table lists lost = record {
  staged = flat_map alone (trees 0);
  grouped = refl;
  kept = map (output listed) (flat_map alone (trees 0));
  distinct = refl;
  ordered = map out all;
  same = subst (λ os. IsPermutation os (map out all)) (sym (all_rows (trees 0) ∙ shown_rows (trees 0) table.formed))
      (IsPermutation-map out (map kept_row (trees 0)) all (all_there (trees 0) all table lists));
  sorted = sorted_outs all lists.in_order;
  shown = sym (shown_outs all);
}

abbrev tail_of : Result Compiled CompileError → ℕ
tail_of (Ok c) = c.tail
tail_of (Err e) = 0

abbrev count_of : Result Compiled CompileError → ℕ
count_of (Ok c) = length c.names
count_of (Err e) = 0

select_whole : nat_le (length select_text) (tail_of (understood store_schema select_text)) ≡ true
unfolding understood everything
select_whole = refl

select_given : 0 ≡ count_of (understood store_schema select_text)
unfolding understood everything
select_given = refl

select_typed : accepts_program store_schema [] listed [] ≡ true
unfolding everything
select_typed = refl

at_most : (m n : ℕ) → nat_le m n ≡ true → m ≤ n
at_most m n h = grind (arith, nat_tests)

unchanged : (s : State) → IsTrue s.is_open → IsUnchanged s s
unchanged s is_open = (record { was_open = is_open; is_open = is_open; now_is = refl; committed_is = refl; mode = refl }, record { changes = refl; last_rowid = refl }, refl)

read_so : (s : State) (rows : List Row) (r : Result Compiled CompileError) (command : Command) → understood s.now.schema select_text ≡ r → IsPlain r → command_of r ≡ command
    → length select_text ≤ tail_of r → 0 ≡ count_of r → IsSourceOf (reads_listing s.now.schema select_text) s.now s.now → Reads command s.now [] rows → IsTrue s.is_open
    → Shown select_text [] s s rows
unfolding Shown
read_so s rows (Err e) command is plain runs whole given source read is_open = absurd plain
read_so s rows (Ok c) command is plain runs whole given source read is_open =
    let params : [] ≡ timed [] c.formats 0 = sym (ap (λ formats. timed [] formats 0) plain.1) in
    let reads = subst (λ ps. Reads c.command s.now ps rows) params (subst (λ k. Reads k s.now [] rows) (sym runs) read) in (
      c,
      record { is = is; whole = whole; given = given; now = 0 },
      subst (ShowsRows s s select_text c (timed [] c.formats 0) rows) (sym plain.0) (s.now, source, reads, unchanged s is_open),
    )

-- while the connection is open, the selection may show them
pub shown_again : (s : State) (all : List Kept) → IsTrue s.is_open → IsRowStore s.now → Lists (rows_of (s.now.trees 0)) all → Shown select_text [] s s (map shown all)
shown_again s all is_open store lists =
    let unlisted = ap (λ (schema : Schema). reads_listing schema select_text) store.0 ∙ select_unlisted in
    let read : Answers s.now (record { lets = []; body = listed }) [] (map shown all) = record {
      typed = subst (λ (schema : Schema). accepts_program schema [] listed [] ≡ true) (sym store.0) select_typed;
      answer = λ lost. answered s.now.trees all store.1 lists lost;
    } in
    read_so s (map shown all) (understood store_schema select_text) _ (ap (λ (schema : Schema). understood schema select_text) store.0) select_plain select_is
    (at_most _ _ select_whole) select_given (subst (λ b. IsSourceOf b s.now s.now) (sym unlisted) refl) read is_open

pub front_shown : (all : List Kept) → map front (map shown all) ≡ map shown all
front_shown [] = refl
front_shown (k ∷ all) = ap (λ rows. shown k ∷ rows) (front_shown all)

-- ---- rows that were read with their rowids

abbrev kept_behind : Row → Kept
kept_behind row = back ([], behind row)

behind_whole : (tree : List Row) → map kept_behind (map whole tree) ≡ map kept_row tree
behind_whole [] = refl
behind_whole (row ∷ tree) = ap (λ ks. kept_row row ∷ ks) (behind_whole tree)

back_behind : (rows : List Row) → map kept_behind rows ≡ map (λ s. back ([], s)) (map behind rows)
back_behind [] = refl
back_behind (row ∷ rows) = ap (λ ks. kept_behind row ∷ ks) (back_behind rows)

back_shown : (kept : List Kept) → map (λ s. back ([], s)) (map shown kept) ≡ kept
back_shown [] = refl
back_shown (k ∷ kept) = ap (λ ks. k ∷ ks) (back_shown kept)

-- they are all rows of the table
pub lists_whole : (tree rows : List Row) (all : List Kept) → IsRowTable tree → IsPermutation (map whole tree) rows → IsInOrder rows all → Lists (rows_of tree) all
lists_whole tree rows all table same order =
    let kept_same : map kept_behind rows ≡ order.kept = back_behind rows ∙ ap (map (λ s. back ([], s))) (sym order.same) ∙ back_shown order.kept in
    let from_tree : IsPermutation (map kept_row tree) order.kept =
    subst (λ ks. IsPermutation ks order.kept) (behind_whole tree) (subst (IsPermutation (map kept_behind (map whole tree))) kept_same (IsPermutation-map kept_behind (map whole tree) rows same)) in
    ordered_lists tree all table (IsPermutation-trans (map kept_row tree) order.kept all from_tree order.moved) (rises_by all order.sorted)
