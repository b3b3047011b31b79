-- A set of filters as its least filter and a tree of the others: what is in it, in which order, and what an insertion makes of it.
use Rattle.std.proofs.Common.{◌≡◌, Bool, true, false, cond, ◌+◌, List, [], ◌∷◌, length, map, Option, Some, None, Result, Ok, Err, OnOk, OnErr, refl, sym, ap, ◌∙◌, subst, arith}
use Rattle.std.specs.declared.cmp.Ordering.TheVariants.{Less, Equal, Greater}
use Rattle.std.specs.Ordering.{eq_by_cmp, ordering_reverse}
use Rattle.std.specs.BTreeMap as tree
use Rattle.std.specs.BTreeMap.{BTreeMap, IsOrdered, btree_map_len}
use Rattle.std.specs.FinMap.{FinMap, insert, keys, len, entries, entries-insert, len-entries, get, get-insert, same_map, put}
use Rattle.std.specs.List.{AllByRecursion}
use Rattle.std.specs.List.Sorted.{IsStrictlySortedBy}
use Rattle.std.proofs.lemmas.Map.Keys.{sorted_head, sorted_tail}
use Rattle.keyed_rows.specs.Rows.{map_of}
use Rattle.keyed_rows.proofs.Finite.{entries_of_sorted, entries_row, keys_row, insert_kept, insert_same}
use Rattle.scope_filters.specs.contracts.filter.FilterOrd.TheImpl.Laws.{total-law}
use Rattle.scope_filters.specs.declared.filter.Filter.{Filter}
use Rattle.scope_filters.specs.FilterOrder.{filter_cmp, filter_exact}
use Rattle.scope_filters.specs.FilterSets.{set_of, in_front, IsInOrder}

abbrev Others : Type 0
Others = BTreeMap Filter (Unit {0})

abbrev IsBelow : Filter → Filter → Type 0
IsBelow f g = filter_cmp f g ≡ Less

-- ---- what is in the set

none_in_order : (ks : List Filter) → ks ≡ [] → IsStrictlySortedBy filter_cmp ks
unfolding IsStrictlySortedBy
none_in_order [] h = tt
none_in_order (k ∷ ks) h = cc

first_in_order : (f : Filter) (ks : List Filter) → AllByRecursion (IsBelow f) ks → IsStrictlySortedBy filter_cmp ks → IsStrictlySortedBy filter_cmp (f ∷ ks)
unfolding IsStrictlySortedBy
first_in_order f ks below sorted = (below, sorted)

others_in_order : (first : Option Filter) (ks : List Filter) → IsInOrder first ks → IsStrictlySortedBy filter_cmp ks
others_in_order None ks h = none_in_order ks h
others_in_order (Some f) ks h = sorted_tail filter_cmp f ks h

pub keys_of_set : (first : Option Filter) (others : Others) → IsInOrder first (tree.keys others) → keys (set_of first others) ≡ in_front first (tree.keys others)
keys_of_set None others h = keys_row total-law others (none_in_order (tree.keys others) h)
keys_of_set (Some f) others h = ap (map (λ e. e.0)) (entries_of_sorted total-law ((f, tt) ∷ others.entries) h)

one_longer : {X : Type 0} (x : X) (xs : List X) → length (x ∷ xs) ≡ length xs + 1
one_longer x xs = omega arith

pub number_with : (first : Option Filter) (others : Others) (f : Filter) → first ≡ Some f → IsInOrder first (tree.keys others) → btree_map_len others + 1 ≡ len (set_of first others)
number_with None others f e h = cc
number_with (Some g) others f e h = sym (len-entries (set_of (Some g) others) ∙ ap length (entries_of_sorted total-law ((g, tt) ∷ others.entries) h) ∙ one_longer (g, tt) others.entries)

none_long : (es : List (Filter × Unit {0})) → map (λ e. e.0) es ≡ [] → length es ≡ 0
none_long [] h = refl
none_long (e ∷ es) h = cc

pub number_without : (first : Option Filter) (others : Others) → first ≡ None → IsInOrder first (tree.keys others) → 0 ≡ len (set_of first others)
number_without None others e h =
    sym (len-entries (map_of filter_cmp others) ∙ ap length (entries_row total-law others (none_in_order (tree.keys others) h)) ∙ none_long others.entries h)
number_without (Some g) others e h = cc

-- ---- what an insertion makes of the set

same_some : {X : Type 0} {x y : X} → Some x ≡ Some y → x ≡ y
same_some h = cc

twice : (a b : Bool) (x : Option (Unit {0})) → cond a (Some tt) (cond b (Some tt) x) ≡ cond b (Some tt) (cond a (Some tt) x)
twice true true x = refl
twice true false x = refl
twice false b x = refl

swapped : (m : FinMap filter_cmp (Unit {0})) (f g : Filter) → insert (insert m f tt) g tt ≡ insert (insert m g tt) f tt
swapped m f g = same_map total-law filter_exact _ _ (λ q.
    get-insert total-law (insert m f tt) g tt q ∙ ap (cond (eq_by_cmp filter_cmp q g) (Some tt)) (get-insert total-law m f tt q)
    ∙ twice (eq_by_cmp filter_cmp q g) (eq_by_cmp filter_cmp q f) (get m q)
    ∙ sym (get-insert total-law (insert m g tt) f tt q ∙ ap (cond (eq_by_cmp filter_cmp q f) (Some tt)) (get-insert total-law m g tt q)))

-- the filter is the first already
pub added_again : (first : Option Filter) (others : Others) (f least : Filter) → first ≡ Some least → filter_cmp f least ≡ Equal → set_of first others ≡ insert (set_of first others) f tt
added_again None others f least e c = cc
added_again (Some g) others f least e c =
    let m : FinMap filter_cmp (Unit {0}) = map_of filter_cmp others in
    sym (insert_kept total-law filter_exact (insert m g tt) f tt (ap (get (insert m g tt)) (filter_exact f least c ∙ sym (same_some e)) ∙ insert_same total-law filter_exact m g tt))

-- the filter comes among the others
pub added_behind : {E : Type 0} (first : Option Filter) (m n : Others) (f least : Filter) (r : Result (Unit {0}) E) → first ≡ Some least
    → OnOk r (map_of filter_cmp n ≡ insert (map_of filter_cmp m) f tt) → OnOk r (set_of first n ≡ insert (set_of first m) f tt)
added_behind None m n f least r e ok = cc
added_behind (Some g) m n f least (Ok u) e ok = ap (λ s. insert s g tt) ok ∙ swapped (map_of filter_cmp m) f g
added_behind (Some g) m n f least (Err x) e ok = tt

-- ---- in which order an insertion leaves it

pub alone_in_order : (first : Option Filter) (ks : List Filter) (f : Filter) → first ≡ None → IsInOrder first ks → IsStrictlySortedBy filter_cmp (f ∷ ks)
alone_in_order None ks f e h = subst (λ (ks : List Filter). IsStrictlySortedBy filter_cmp (f ∷ ks)) (sym h) (first_in_order f [] tt (none_in_order [] refl))
alone_in_order (Some g) ks f e h = cc

same_keys : (m n : Others) → IsOrdered filter_cmp m → IsOrdered filter_cmp n → map_of filter_cmp n ≡ map_of filter_cmp m → tree.keys n ≡ tree.keys m
same_keys m n old new e = sym (keys_row total-law n new) ∙ ap keys e ∙ keys_row total-law m old

pub order_kept : (first : Option Filter) (m n : Others) → IsInOrder first (tree.keys m) → map_of filter_cmp n ≡ map_of filter_cmp m → IsOrdered filter_cmp n → IsInOrder first (tree.keys n)
order_kept first m n h e new = subst (IsInOrder first) (sym (same_keys m n (others_in_order first (tree.keys m) h) new e)) h

all_put : (P : Filter → Type 0) (es : List (Filter × Unit {0})) (k : Filter) → P k → AllByRecursion P (map (λ e. e.0) es) → AllByRecursion P (map (λ e. e.0) (put filter_cmp k tt es))
all_put P [] k p h = (p, tt)
all_put P (e ∷ es) k p h =
    elim (filter_cmp k e.0) as (λ r. AllByRecursion P (map (λ e. e.0) (Rattle.std.specs.FinMap.Entries.by_order r ((k, tt) ∷ e ∷ es) ((e.0, tt) ∷ es) (e ∷ put filter_cmp k tt es)))) [
      | Less ↦ (p, h)
      | Equal ↦ h
      | Greater ↦ (h.0, all_put P es k p h.1)
    ]

-- what all filters of a tree and one more say, all of the tree with that filter say
all_with : (P : Filter → Type 0) (m n : Others) (k : Filter) → IsOrdered filter_cmp m → IsOrdered filter_cmp n → map_of filter_cmp n ≡ insert (map_of filter_cmp m) k tt
    → P k → AllByRecursion P (tree.keys m) → AllByRecursion P (tree.keys n)
all_with P m n k old new e p h =
    subst (AllByRecursion P) (ap (map (λ e. e.0)) (ap (put filter_cmp k tt) (sym (entries_row total-law m old)) ∙ sym (entries-insert total-law (map_of filter_cmp m) k tt)) ∙ ap keys (sym e) ∙ keys_row total-law n new)
    (all_put P m.entries k p h)

all_below : (f g : Filter) (ks : List Filter) → IsBelow f g → AllByRecursion (IsBelow g) ks → AllByRecursion (IsBelow f) ks
all_below f g [] c h = tt
all_below f g (k ∷ ks) c h = (total-law.trans f g k c h.0, all_below f g ks c h.1)

-- the filter comes among the others, or nothing is changed
pub order_behind : {E : Type 0} (first : Option Filter) (m n : Others) (f least : Filter) (r : Result (Unit {0}) E) → first ≡ Some least → filter_cmp f least ≡ Greater
    → OnOk r (map_of filter_cmp n ≡ insert (map_of filter_cmp m) f tt) → OnErr r (map_of filter_cmp n ≡ map_of filter_cmp m) → IsOrdered filter_cmp n
    → IsInOrder first (tree.keys m) → IsInOrder first (tree.keys n)
order_behind None m n f least r e c ok err new h = cc
order_behind (Some g) m n f least (Err x) e c ok err new h = order_kept (Some g) m n h err new
order_behind (Some g) m n f least (Ok u) e c ok err new h =
    let above : IsBelow g f = ap (λ l. filter_cmp l f) (same_some e) ∙ total-law.antisymm least f ∙ ap ordering_reverse c in
    first_in_order g (tree.keys n) (all_with (IsBelow g) m n f (sorted_tail filter_cmp g (tree.keys m) h) new ok above (sorted_head filter_cmp g (tree.keys m) h)) new

-- the filter comes first, and what was the first among the others
pub order_before : (first : Option Filter) (m n : Others) (f least : Filter) → first ≡ Some least → filter_cmp f least ≡ Less
    → map_of filter_cmp n ≡ insert (map_of filter_cmp m) least tt → IsOrdered filter_cmp n → IsInOrder first (tree.keys m) → IsStrictlySortedBy filter_cmp (f ∷ tree.keys n)
order_before None m n f least e c ok new h = cc
order_before (Some g) m n f least e c ok new h =
    first_in_order f (tree.keys n)
    (all_with (IsBelow f) m n least (sorted_tail filter_cmp g (tree.keys m) h) new ok c (all_below f g (tree.keys m) (ap (filter_cmp f) (same_some e) ∙ c) (sorted_head filter_cmp g (tree.keys m) h))) new
