-- A tree's entries against the finite map of them.
use Rattle.std.proofs.Common.{◌≡◌, ℕ, Bool, true, false, cond, ◌||◌, List, [], ◌∷◌, length, Option, Some, None, is_some, map, sym, ap, ◌∙◌, refl, arith, ◌⊎◌, inl, inr}
use Rattle.std.specs.declared.cmp.Ordering.{Ordering}
use Rattle.std.specs.declared.cmp.Ordering.TheVariants.{Less, Equal, Greater}
use Rattle.std.specs.Ordering.{is_eq, is_lt, eq_by_cmp, match_ordering}
use Rattle.std.specs.Cmp.{IsTotalOrder, eq_by_cmp_equiv, alike_right, tied_itself}
use Rattle.std.specs.List as scan
use Rattle.std.proofs.lemmas.Map.Views.{All-found}
use Rattle.std.proofs.lemmas.List.Elements.{recursion_from_All, All-weaker}
use Rattle.std.specs.FinMap.{get_tied}
use Rattle.std.specs.List.{AllByRecursion, filter, list_any}
use Rattle.std.specs.List.Sorted.{IsStrictlySortedBy}
use Rattle.std.proofs.lemmas.Map.Keys.{sorted_head, sorted_tail}
use Rattle.std.specs.Map.{keys_of, lookup, remove_entry}
use Rattle.std.specs.BTreeMap as tree
use Rattle.std.specs.BTreeMap.{BTreeMap, IsOrdered, WritesThrough, get_by, insert_entry, is_at}
use Rattle.std.specs.FinMap.{FinMap, entries, get, insert, remove, retain_keys, len, contains_key, values, keys, find, put, from_entries, entries-insert, get-from_entries, get-insert, get-remove, get-entries, len-entries, len-empty, get-empty, same_map, IsAntisymmetric, same_entries_map, empty}
use Rattle.std.proofs.lemmas.Bool.Decides.{nat_tests}
use Rattle.std.proofs.Common.{Err, Ok, ◌-◌, Result, OnOk, OnErr}
use Rattle.std.proofs.lemmas.Bool.{leb-true}
use borrow.Author.Tests.{ltb-true}
use Rattle.keyed_rows.specs.declared.PutError.TheVariants.{Full, Memory}
use Rattle.keyed_rows.specs.Rows.{map_of, is_full, IsPutAnswer, OwnKeys}

-- an insertion into the tree's list is the finite map's
pub put_is : {K X : Type 0} (R : K → K → Ordering) (es : List (K × X)) (k : K) (v : X) → put R k v es ≡ insert_entry R es k v
put_is R [] k v = refl
put_is {K} {X} R (e ∷ es) k v =
    elim (R k e.0) as (λ r. Rattle.std.specs.FinMap.Entries.by_order r ((k, v) ∷ e ∷ es) ((e.0, v) ∷ es) (e ∷ put R k v es) ≡ match_ordering r ((k, v) ∷ e ∷ es) ((e.0, v) ∷ es) (e ∷ insert_entry R es k v))
    [ Less ↦ refl | Equal ↦ refl | Greater ↦ ap (λ xs. e ∷ xs) (put_is R es k v) ]

-- a look-up in the tree's list is the finite map's
pub find_is : {K X : Type 0} (R : K → K → Ordering) (es : List (K × X)) (q : K) → find R q es ≡ lookup (is_at (R q)) es
find_is R [] q = refl
find_is R (e ∷ es) q = ap (cond (is_at (R q) e.0) (Some e.1)) (find_is R es q)

pub get_row : {K X : Type 0} {R : K → K → Ordering} (o : IsTotalOrder R) (m : BTreeMap K X) (q : K) → get (map_of R m) q ≡ lookup (is_at (R q)) m.entries
get_row {R = R} o m q = get-from_entries o m.entries q ∙ find_is R m.entries q

-- an entry before all others is put in front
put_front : {K X : Type 0} (R : K → K → Ordering) (e : K × X) (es : List (K × X)) → AllByRecursion (λ y. R e.0 y ≡ Less) (keys_of es) → put R e.0 e.1 es ≡ e ∷ es
put_front R e [] h = refl
put_front R e (f ∷ es) h = rw h.0 refl

no_entry : {A : Type 0} (es : List A) → length es ≡ 0 → es ≡ []
no_entry [] h = refl
no_entry (e ∷ es) h = absurd (omega (arith, h))

-- the finite map of entries in order has these entries
pub entries_of_sorted : {K X : Type 0} {R : K → K → Ordering} (o : IsTotalOrder R) (es : List (K × X)) → IsStrictlySortedBy R (keys_of es) → entries (from_entries {R = R} es) ≡ es
entries_of_sorted {X = X} {R = R} o [] s = no_entry _ (sym (len-entries empty) ∙ len-empty R X)
entries_of_sorted {R = R} o (e ∷ es) s =
    entries-insert o (from_entries es) e.0 e.1 ∙ ap (put R e.0 e.1) (entries_of_sorted o es (sorted_tail R e.0 (keys_of es) s)) ∙ put_front R e es (sorted_head R e.0 (keys_of es) s)

pub entries_row : {K X : Type 0} {R : K → K → Ordering} (o : IsTotalOrder R) (m : BTreeMap K X) → IsOrdered R m → entries (map_of R m) ≡ m.entries
entries_row o m s = entries_of_sorted o m.entries s

pub len_row : {K X : Type 0} {R : K → K → Ordering} (o : IsTotalOrder R) (m : BTreeMap K X) → IsOrdered R m → len (map_of R m) ≡ length m.entries
len_row {R = R} o m s = len-entries (map_of R m) ∙ ap length (entries_row o m s)

pub put_row : {K X : Type 0} {R : K → K → Ordering} (o : IsTotalOrder R) (exact : IsAntisymmetric R) (m n : BTreeMap K X) (k : K) (v : X)
    → ((q : K) → tree.get R n q ≡ cond (is_at (R k) q) (Some v) (tree.get R m q)) → map_of R n ≡ insert (map_of R m) k v
put_row {R = R} o exact m n k v h = same_map o exact _ _ (λ q.
    get_row o n q ∙ h q ∙ ap (λ b. cond b (Some v) (tree.get R m q)) ((eq_by_cmp_equiv o).symm k q)
    ∙ sym (get-insert o (map_of R m) k v q ∙ ap (cond (eq_by_cmp R q k) (Some v)) (get_row o m q)))

pub removed_row : {K X : Type 0} {R : K → K → Ordering} (o : IsTotalOrder R) (exact : IsAntisymmetric R) (m n : BTreeMap K X) (k : K)
    → ((q : K) → tree.get R n q ≡ cond (is_at (R k) q) None (tree.get R m q)) → map_of R n ≡ remove (map_of R m) k
removed_row {R = R} o exact m n k h = same_map o exact _ _ (λ q.
    get_row o n q ∙ h q ∙ ap (λ b. cond b None (tree.get R m q)) ((eq_by_cmp_equiv o).symm k q)
    ∙ sym (get-remove o (map_of R m) k q ∙ ap (cond (eq_by_cmp R q k) None) (get_row o m q)))

pub kept_row : {K X : Type 0} {R : K → K → Ordering} (o : IsTotalOrder R) (m : BTreeMap K X) (q : K) → contains_key (map_of R m) q ≡ is_some (lookup (is_at (R q)) m.entries)
kept_row o m q = ap is_some (get_row o m q)

pub answer_full : (kind limit rows rows' leaving : ℕ) (kept kept' : Bool) → rows' ≡ rows → kept' ≡ kept → is_full kept rows leaving limit ≡ true
    → IsPutAnswer kind limit rows' leaving kept' (Err (Full kind limit))
answer_full kind limit rows rows' leaving true kept' e f h = cc
answer_full kind limit rows rows' leaving false kept' e f h = (f, omega (arith, leb-true limit (rows - leaving) h, e), refl, refl)

pub answer_ok : (kind limit rows rows' leaving : ℕ) (kept kept' : Bool) → rows' ≡ rows → kept' ≡ kept → is_full kept rows leaving limit ≡ false
    → IsPutAnswer kind limit rows' leaving kept' (Ok tt)
answer_ok kind limit rows rows' leaving true kept' e f h = rw f refl
answer_ok kind limit rows rows' leaving false kept' e f h = rw (e, f) (grind (arith, nat_tests))

pub answer_memory : (kind limit rows rows' leaving : ℕ) (kept kept' : Bool) → rows' ≡ rows → kept' ≡ kept → is_full kept rows leaving limit ≡ false → kept ≡ false
    → IsPutAnswer kind limit rows' leaving kept' (Err Memory)
answer_memory kind limit rows rows' leaving true kept' e f h k = cc
answer_memory kind limit rows rows' leaving false kept' e f h k = (f, grind (arith, nat_tests))

-- where a row was put at a new key, there was room
pub memory_after_ok : (kind limit rows leaving : ℕ) (kept : Bool) → kept ≡ false → IsPutAnswer kind limit rows leaving kept (Ok tt) → IsPutAnswer kind limit rows leaving kept (Err Memory)
memory_after_ok kind limit rows leaving true k h = cc
memory_after_ok kind limit rows leaving false k h = (k, ltb-true (rows - leaving) limit h)

pub values_row : {K X : Type 0} {R : K → K → Ordering} (o : IsTotalOrder R) (m : BTreeMap K X) → IsOrdered R m → values (map_of R m) ≡ tree.values m
values_row {X = X} o m s = ap (map (λ e. e.1)) (entries_row o m s)

-- a row that is put at a new key and taken out again leaves the map
taken_out : {X : Type 0} (b : Bool) (x : Option X) (v : X) → (b ≡ true → x ≡ None) → cond b None (cond b (Some v) x) ≡ x
taken_out true x v h = sym (h refl)
taken_out false x v h = refl

not_some : {X : Type 0} (x : Option X) → is_some x ≡ false → x ≡ None
not_some None h = refl
not_some (Some x) h = cc

pub tied : (r : Ordering) → is_eq r ≡ true → r ≡ Equal
tied Less h = cc
tied Equal h = refl
tied Greater h = cc

same_some : {X : Type 0} {x y : X} → Some x ≡ Some y → x ≡ y
same_some h = cc

pub clash : (b : Bool) → b ≡ true → b ≡ false → ⊥
clash b h k = cc

pub put_and_removed : {K X : Type 0} {R : K → K → Ordering} (o : IsTotalOrder R) (exact : IsAntisymmetric R) (m : FinMap R X) (k : K) (v : X)
    → contains_key m k ≡ false → remove (insert m k v) k ≡ m
put_and_removed {R = R} o exact m k v new = same_map o exact _ _ (λ q.
    get-remove o (insert m k v) k q ∙ ap (cond (eq_by_cmp R q k) None) (get-insert o m k v q)
    ∙ taken_out (eq_by_cmp R q k) (get m q) v (λ e. sym (get_tied o m q k (tied (R q k) e)) ∙ not_some (get m k) new))

-- ---- a search among the values
none_found : {K X : Type 0} (p : X → Bool) (es : List (K × X)) → AllByRecursion (λ e. p e.1 ≡ false) es → scan.find p (map (λ e. e.1) es) ≡ None
none_found p [] h = refl
none_found p (e ∷ es) h = rw h.0 (none_found p es h.1)

one_found : {K X : Type 0} (test : K → Bool) (p : X → Bool) (v : X) (es : List (K × X)) → AllByRecursion (λ e. p e.1 ≡ true → e.1 ≡ v) es
    → lookup test es ≡ Some v → p v ≡ true → scan.find p (map (λ e. e.1) es) ≡ Some v
one_found test p v [] h l pv = cc
one_found test p v (e ∷ es) h l pv =
    elim (p e.1) as (λ b. p e.1 ≡ b → cond b (Some e.1) (scan.find p (map (λ e. e.1) es)) ≡ Some v) [
      | true ↦ λ pe. ap Some (h.0 pe)
      | false ↦ λ pe. elim (test e.0) as (λ b. cond b (Some e.1) (lookup test es) ≡ Some v → scan.find p (map (λ e. e.1) es) ≡ Some v) [
        | true ↦ λ l. absurd (clash (p v) pv (ap p (sym (same_some l)) ∙ pe))
        | false ↦ λ l. one_found test p v es h.1 l pv
      ] l
    ] refl

-- what each row of the map says, each entry of the tree says
each_entry : {K X : Type 0} {R : K → K → Ordering} (o : IsTotalOrder R) (m : BTreeMap K X) → IsOrdered R m → (P : X → Type 0)
    → ((k : K) (v : X) → get (map_of R m) k ≡ Some v → P v) → AllByRecursion (λ e. P e.1) m.entries
each_entry {R = R} o m s P h = recursion_from_All _ _ (All-weaker _ _ (λ e found. h e.0 e.1 (get_row o m e.0 ∙ found)) _ (All-found o m s))

-- a search among the rows finds nothing, where no row passes
pub find_none : {K X : Type 0} {R : K → K → Ordering} (o : IsTotalOrder R) (m : BTreeMap K X) → IsOrdered R m → (p : X → Bool)
    → ((k : K) (v : X) → get (map_of R m) k ≡ Some v → p v ≡ false) → scan.find p (values (map_of R m)) ≡ None
find_none o m s p h = rw (values_row o m s) (none_found p m.entries (each_entry o m s (λ v. p v ≡ false) h))

-- it finds the one row that passes
pub find_one : {K X : Type 0} {R : K → K → Ordering} (o : IsTotalOrder R) (m : BTreeMap K X) → IsOrdered R m → (p : X → Bool) (k : K) (v : X)
    → get (map_of R m) k ≡ Some v → p v ≡ true → ((k' : K) (v' : X) → get (map_of R m) k' ≡ Some v' → p v' ≡ true → v' ≡ v) → scan.find p (values (map_of R m)) ≡ Some v
find_one {R = R} o m s p k v at pv h = rw (values_row o m s) (one_found (is_at (R k)) p v m.entries (each_entry o m s (λ w. p w ≡ true → w ≡ v) h) (sym (get_row o m k) ∙ at) pv)

none_some : {X : Type 0} {x : X} → None ≡ Some x → ⊥
none_some h = cc

other_cond : {A : Type 0} (b : Bool) → (b ≡ true → ⊥) → (x y : A) → cond b x y ≡ y
other_cond true h x y = absurd (h refl)
other_cond false h x y = refl

not_tied : {K : Type 0} {R : K → K → Ordering} (o : IsTotalOrder R) (q k : K) → q ≡ k → is_eq (R q k) ≡ false → ⊥
not_tied {R = R} o q k s e = clash (is_eq (R q k)) (ap (λ x. is_eq (R q x)) (sym s) ∙ ap is_eq (tied_itself o q)) e

-- ---- what an insertion and a removal answer, where only equal keys tie
module _ {K X : Type 0} {R : K → K → Ordering} (o : IsTotalOrder R) (exact : IsAntisymmetric R) where
  pub insert_same : (m : FinMap R X) (k : K) (v : X) → get (insert m k v) k ≡ Some v
  insert_same m k v = get-insert o m k v k ∙ ap (λ r. cond (is_eq r) (Some v) (get m k)) (tied_itself o k)

  pub insert_other : (m : FinMap R X) (k : K) (v : X) (q : K) → (q ≡ k → ⊥) → get (insert m k v) q ≡ get m q
  insert_other m k v q apart = get-insert o m k v q ∙ other_cond (eq_by_cmp R q k) (λ e. apart (exact q k (tied (R q k) e))) _ _

  pub insert_cases : (m : FinMap R X) (k : K) (v : X) (q : K) (w : X) → get (insert m k v) q ≡ Some w → ((q ≡ k) × (v ≡ w)) ⊎ ((q ≡ k → ⊥) × (get m q ≡ Some w))
  insert_cases m k v q w h = elim (R q k) as (λ r. R q k ≡ r → cond (is_eq r) (Some v) (get m q) ≡ Some w → ((q ≡ k) × (v ≡ w)) ⊎ ((q ≡ k → ⊥) × (get m q ≡ Some w))) [
    | Less ↦ λ e g. inr (λ s. not_tied o q k s (ap is_eq e), g)
    | Equal ↦ λ e g. inl (exact q k e, same_some g)
    | Greater ↦ λ e g. inr (λ s. not_tied o q k s (ap is_eq e), g)
  ] refl (sym (get-insert o m k v q) ∙ h)

  pub remove_cases : (m : FinMap R X) (k q : K) (w : X) → get (remove m k) q ≡ Some w → (q ≡ k → ⊥) × (get m q ≡ Some w)
  remove_cases m k q w h = elim (R q k) as (λ r. R q k ≡ r → cond (is_eq r) None (get m q) ≡ Some w → (q ≡ k → ⊥) × (get m q ≡ Some w)) [
    | Less ↦ λ e g. (λ s. not_tied o q k s (ap is_eq e), g)
    | Equal ↦ λ e g. absurd (none_some g)
    | Greater ↦ λ e g. (λ s. not_tied o q k s (ap is_eq e), g)
  ] refl (sym (get-remove o m k q) ∙ h)

  pub remove_other : (m : FinMap R X) (k q : K) → (q ≡ k → ⊥) → get (remove m k) q ≡ get m q
  remove_other m k q apart = get-remove o m k q ∙ other_cond (eq_by_cmp R q k) (λ e. apart (exact q k (tied (R q k) e))) _ _

pub same_or_apart : {K : Type 0} {R : K → K → Ordering} (o : IsTotalOrder R) (exact : IsAntisymmetric R) (q k : K) → (q ≡ k) ⊎ (q ≡ k → ⊥)
same_or_apart {R = R} o exact q k = elim (R q k) as (λ r. R q k ≡ r → (q ≡ k) ⊎ (q ≡ k → ⊥)) [
  | Less ↦ λ e. inr (λ s. not_tied o q k s (ap is_eq e))
  | Equal ↦ λ e. inl (exact q k e)
  | Greater ↦ λ e. inr (λ s. not_tied o q k s (ap is_eq e))
] refl

none_cond : {X : Type 0} (b : Bool) (x : Option X) → (b ≡ true → x ≡ None) → cond b None x ≡ x
none_cond true x h = sym (h refl)
none_cond false x h = refl

-- to take out what isn't there changes nothing
pub remove_absent : {K X : Type 0} {R : K → K → Ordering} (o : IsTotalOrder R) (exact : IsAntisymmetric R) (m : FinMap R X) (k : K) → get m k ≡ None → remove m k ≡ m
remove_absent {R = R} o exact m k none = same_map o exact _ _ (λ q. get-remove o m k q ∙ none_cond (eq_by_cmp R q k) (get m q) (λ e. sym (get_tied o m q k (tied (R q k) e)) ∙ none))

pub keys_row : {K X : Type 0} {R : K → K → Ordering} (o : IsTotalOrder R) (m : BTreeMap K X) → IsOrdered R m → keys (map_of R m) ≡ tree.keys m
keys_row o m s = ap (map (λ e. e.0)) (entries_row o m s)

-- ---- rows under their own keys
module _ {K X : Type 0} {R : K → K → Ordering} (o : IsTotalOrder R) (exact : IsAntisymmetric R) (key : X → K) where
  pub own_empty : (m : FinMap R X) → m ≡ empty → OwnKeys key m
  own_empty m e q row at = absurd (none_some (sym (get-empty R q) ∙ ap (λ n. get n q) (sym e) ∙ at))

  pub own_put : {E : Type 0} (m after : FinMap R X) (v : X) (r : Result (Unit {0}) E) → OnOk r (after ≡ insert m (key v) v) → OnErr r (after ≡ m) → OwnKeys key m → OwnKeys key after
  own_put m after v (Ok u) ok err own q row at = elim (insert_cases o exact m (key v) v q row (ap (λ n. get n q) (sym ok) ∙ at)) as (λ _. key row ≡ q) [
    | inl same ↦ ap key (sym same.1) ∙ sym same.0
    | inr other ↦ own q row other.1
  ]
  own_put m after v (Err e) ok err own q row at = own q row (ap (λ n. get n q) (sym err) ∙ at)

  pub own_removed : (m after : FinMap R X) (k : K) → after ≡ remove m k → OwnKeys key m → OwnKeys key after
  own_removed m after k e own q row at = own q row (remove_cases o exact m k q row (ap (λ n. get n q) (sym e) ∙ at)).1

some_cond : {X : Type 0} (b : Bool) (v : X) (x : Option X) → (b ≡ true → x ≡ Some v) → cond b (Some v) x ≡ x
some_cond true v x h = sym (h refl)
some_cond false v x h = refl

-- to put what is there already changes nothing
pub insert_kept : {K X : Type 0} {R : K → K → Ordering} (o : IsTotalOrder R) (exact : IsAntisymmetric R) (m : FinMap R X) (k : K) (v : X) → get m k ≡ Some v → insert m k v ≡ m
insert_kept {R = R} o exact m k v at = same_map o exact _ _ (λ q. get-insert o m k v q ∙ some_cond (eq_by_cmp R q k) v (get m q) (λ e. sym (get_tied o m q k (tied (R q k) e)) ∙ at))

-- a value that was written through what the tree lent of a row
pub written_row : {K X : Type 0} {R : K → K → Ordering} (o : IsTotalOrder R) (exact : IsAntisymmetric R) (m n : BTreeMap K X) (k : K) (old new : X)
    → WritesThrough R (R k) m new n → Some old ≡ get_by (R k) m → map_of R n ≡ insert (map_of R m) k new
written_row o exact m n k old new w at = put_row o exact m n k new (w.3 (ap is_some (sym at))).0

-- the row that the tree has lent
pub lent_row : {K X : Type 0} {R : K → K → Ordering} (o : IsTotalOrder R) (m : BTreeMap K X) (k : K) (x : Option X) → x ≡ get_by (R k) m → get (map_of R m) k ≡ x
lent_row o m k x at = get_row o m k ∙ sym at

-- ---- a test of each key

pub or_again : (a b : Bool) → (a || b) ≡ (a || (a || b))
or_again true b = refl
or_again false b = refl

pub or_over : (a b c : Bool) → (a || (b || c)) ≡ (b || (a || c))
or_over true true c = refl
or_over true false c = refl
or_over false b c = refl

any_put : {K X : Type 0} (R : K → K → Ordering) (exact : IsAntisymmetric R) (p : K → Bool) (es : List (K × X)) (k : K) (v : X)
    → list_any p (map (λ e. e.0) (put R k v es)) ≡ (p k || list_any p (map (λ e. e.0) es))
any_put R exact p [] k v = refl
any_put {K} {X} R exact p (e ∷ es) k v =
    elim (R k e.0) as (λ r. R k e.0 ≡ r → list_any p (map (λ e. e.0) (Rattle.std.specs.FinMap.Entries.by_order r ((k, v) ∷ e ∷ es) ((e.0, v) ∷ es) (e ∷ put R k v es))) ≡ (p k || (p e.0 || list_any p (map (λ e. e.0) es)))) [
      | Less ↦ λ r. refl
      | Equal ↦ λ r. or_again (p e.0) _ ∙ ap (λ q. p q || (p e.0 || list_any p (map (λ e. e.0) es))) (sym (exact k e.0 r))
      | Greater ↦ λ r. ap (λ b. p e.0 || b) (any_put R exact p es k v) ∙ or_over (p e.0) (p k) _
    ] refl

pub any_key : {K X : Type 0} {R : K → K → Ordering} (o : IsTotalOrder R) (exact : IsAntisymmetric R) (p : K → Bool) (m : FinMap R X) (k : K) (v : X)
    → list_any p (keys (insert m k v)) ≡ (p k || list_any p (keys m))
any_key {R = R} o exact p m k v = ap (λ es. list_any p (map (λ e. e.0) es)) (entries-insert o m k v) ∙ any_put R exact p (entries m) k v

pub keys_empty : {K X : Type 0} (R : K → K → Ordering) (m : FinMap R X) → m ≡ empty → keys m ≡ []
keys_empty {X = X} R m e = ap (map (λ e. e.0)) (no_entry _ (sym (len-entries m) ∙ ap len e ∙ len-empty R X))
