-- An index of owners stays in step with the rows, and tells what a scan over them does.
use Rattle.std.proofs.Common.{◌≡◌, Result, Ok, Err, OnOk, OnErr, IfOk, Bool, true, false, not, ◌&&◌, ◌||◌, cond, List, [], ◌∷◌, ◌++◌, Option, Some, None, is_some, map, refl, sym, ap, ◌∙◌, subst}
use Rattle.std.specs.declared.cmp.Ordering.{Ordering}
use Rattle.std.specs.declared.cmp.Ordering.TheVariants.{Less, Equal, Greater}
use Rattle.std.specs.Ordering.{ordering_then, is_eq, eq_by_cmp}
use Rattle.std.specs.Option.{option_cmp}
use Rattle.std.specs.Cmp.{IsTotalOrder, tied_itself, eq_by_cmp_equiv, on_total, then_total}
use Rattle.std.specs.Cmp.Lexicographic.{options_total}
use Rattle.std.specs.FinMap.{FinMap, IsAntisymmetric, entries, entries_sorted, keys, values, get, insert, remove, contains_key, empty, get-insert, get-remove, get-empty, get_tied, contains_key-keys}
use Rattle.std.specs.List.{AllByRecursion, filter, flat_map, list_any}
use Rattle.std.specs.List.Sorted.{IsStrictlySortedBy}
use Rattle.keyed_rows.specs.Rows.{OwnKeys, is_kept_and}
use Rattle.keyed_rows.specs.Sorted.{is_among}
use Rattle.keyed_rows.proofs.Finite.{tied}
use Rattle.keyed_rows.proofs.InOrder.{rise, found_rise, found_among}
use Rattle.keyed_rows.proofs.KeyLists.{same_keys}
use Rattle.row_indexes.specs.declared.owned.OwnedKey.{OwnedKey}
use Rattle.row_indexes.specs.Owned.{owned_cmp, under, key_list, keys_under, IsIndex, IsNoted, IsForgotten}

-- ---- an entry that is put or taken out

both_tied : (a b : Ordering) → is_eq (ordering_then a b) ≡ (is_eq a && is_eq b)
both_tied Less b = refl
both_tied Equal b = refl
both_tied Greater b = refl

some_or : {X : Type 0} (b : Bool) (v : X) (x : Option X) → is_some (cond b (Some v) x) ≡ (b || is_some x)
some_or true v x = refl
some_or false v x = refl

none_and : {X : Type 0} (b : Bool) (x : Option X) → is_some (cond b None x) ≡ (not b && is_some x)
none_and true x = refl
none_and false x = refl

module _ {O K : Type 0} (Q : O → O → Ordering) (R : K → K → Ordering) (total : IsTotalOrder (owned_cmp Q R)) (owner : O) (key : K) (before after : FinMap (owned_cmp Q R) (Unit {0})) where
  pub noted : after ≡ insert before (under owner key) tt → IsNoted Q R owner key before after
  noted e o k = ap (λ m. contains_key m (under o k)) e ∙ ap is_some (get-insert total before (under owner key) tt (under o k))
      ∙ some_or (eq_by_cmp (owned_cmp Q R) (under o k) (under owner key)) tt (get before (under o k)) ∙ ap (λ b. b || contains_key before (under o k)) (both_tied (Q o owner) (R k key))

  pub forgotten : after ≡ remove before (under owner key) → IsForgotten Q R owner key before after
  forgotten e o k = ap (λ m. contains_key m (under o k)) e ∙ ap is_some (get-remove total before (under owner key) (under o k))
      ∙ none_and (eq_by_cmp (owned_cmp Q R) (under o k) (under owner key)) (get before (under o k)) ∙ ap (λ b. not b && contains_key before (under o k)) (both_tied (Q o owner) (R k key))

pub owned_total : {O K : Type 0} {Q : O → O → Ordering} {R : K → K → Ordering} → IsTotalOrder Q → IsTotalOrder R → IsTotalOrder (owned_cmp Q R)
owned_total owners keys = then_total (on_total (λ k. k.owner) owners) (on_total (λ k. k.key) (options_total keys))

-- ---- an index stays in step

and_or : (a : Bool) → ((a && true) || false) ≡ a
and_or true = refl
and_or false = refl

no_more : (a y : Bool) → ((a && false) || y) ≡ y
no_more true y = refl
no_more false y = refl

gone : (a : Bool) → (not (a && true) && a) ≡ false
gone true = refl
gone false = refl

and_none : (a : Bool) → (not a && false) ≡ false
and_none true = refl
and_none false = refl

none_gone : (a y : Bool) → (not (a && false) && y) ≡ y
none_gone true y = refl
none_gone false y = refl

new_row : {X : Type 0} (p : X → Bool) (b : Bool) (v : X) (g : Option X) → (b ≡ true → g ≡ None) → ((p v && b) || is_kept_and p g) ≡ is_kept_and p (cond b (Some v) g)
new_row p true v g h = subst (λ x. ((p v && true) || is_kept_and p x) ≡ p v) (sym (h refl)) (and_or (p v))
new_row p false v g h = no_more (p v) (is_kept_and p g)

kept_row : {X : Type 0} (p : X → Bool) (b : Bool) (v old : X) (g : Option X) → (b ≡ true → g ≡ Some old) → p v ≡ p old → is_kept_and p g ≡ is_kept_and p (cond b (Some v) g)
kept_row p true v old g h same = ap (is_kept_and p) (h refl) ∙ sym same
kept_row p false v old g h same = refl

gone_row : {X : Type 0} (p : X → Bool) (a b : Bool) (g : Option X) → (b ≡ true → (old : X) → g ≡ Some old → p old ≡ a) → (not (a && b) && is_kept_and p g) ≡ is_kept_and p (cond b None g)
gone_row p a true None h = and_none (a && true)
gone_row p a true (Some old) h = ap (λ c. not (a && true) && c) (h refl old refl) ∙ gone a
gone_row p a false g h = none_gone a (is_kept_and p g)

no_row : {X : Type 0} (p : X → Bool) (b : Bool) (g : Option X) → (b ≡ true → g ≡ None) → is_kept_and p g ≡ is_kept_and p (cond b None g)
no_row p true g h = ap (is_kept_and p) (h refl)
no_row p false g h = refl

still_none : {X : Type 0} (p : X → Bool) (a b : Bool) (g : Option X) → (b ≡ true → g ≡ None) → (not (a && b) && is_kept_and p g) ≡ is_kept_and p g
still_none p a true g h = ap (λ c. not (a && true) && c) (ap (is_kept_and p) (h refl)) ∙ and_none (a && true) ∙ sym (ap (is_kept_and p) (h refl))
still_none p a false g h = none_gone a (is_kept_and p g)

some_kept : {X : Type 0} (x : Option X) → is_some x ≡ true → (v : X) × (x ≡ Some v)
some_kept None h = cc
some_kept (Some v) h = (v, refl)

module _ {O K X : Type 0} (Q : O → O → Ordering) (R : K → K → Ordering) (total : IsTotalOrder R) (is_of : O → X → Bool) (rows : FinMap R X) (index : FinMap (owned_cmp Q R) (Unit {0})) (x : IsIndex Q R is_of rows index)
    (k : K) (rows' : FinMap R X) (index' : FinMap (owned_cmp Q R) (Unit {0})) where
  at_key : (q : K) → eq_by_cmp R q k ≡ true → get rows q ≡ get rows k
  at_key q e = sym (get_tied total rows q k (tied (R q k) e))

  pub put_new : (v : X) → rows' ≡ insert rows k v → get rows k ≡ None
      → ((o : O) (q : K) → contains_key index' (under o q) ≡ ((is_of o v && eq_by_cmp R q k) || contains_key index (under o q))) → IsIndex Q R is_of rows' index'
  put_new v e none noted o q =
      noted o q ∙ ap (λ b. (is_of o v && eq_by_cmp R q k) || b) (x o q)
      ∙ new_row (is_of o) (eq_by_cmp R q k) v (get rows q) (λ t. at_key q t ∙ none)
      ∙ ap (is_kept_and (is_of o)) (sym (get-insert total rows k v q)) ∙ ap (λ m. is_kept_and (is_of o) (get m q)) (sym e)

  pub put_kept : (v old : X) → rows' ≡ insert rows k v → get rows k ≡ Some old → ((o : O) → is_of o v ≡ is_of o old) → IsIndex Q R is_of rows' index
  put_kept v old e kept same o q =
      x o q
      ∙ kept_row (is_of o) (eq_by_cmp R q k) v old (get rows q) (λ t. at_key q t ∙ kept) (same o)
      ∙ ap (is_kept_and (is_of o)) (sym (get-insert total rows k v q)) ∙ ap (λ m. is_kept_and (is_of o) (get m q)) (sym e)

  pub unchanged : rows' ≡ rows → IsIndex Q R is_of rows' index
  unchanged e o q = x o q ∙ ap (λ m. is_kept_and (is_of o) (get m q)) (sym e)

  -- a put at a kept key, whose row has the same owners
  pub put_in_place : {E : Type 0} (v : X) (r : Result (Unit {0}) E) → OnOk r (rows' ≡ insert rows k v) → OnErr r (rows' ≡ rows) → contains_key rows k ≡ true
      → ((old : X) → get rows k ≡ Some old → (o : O) → is_of o v ≡ is_of o old) → IsIndex Q R is_of rows' index
  put_in_place v (Ok u) ok err kept same = let old = some_kept (get rows k) kept in put_kept v old.0 ok old.1 (same old.0 old.1)
  put_in_place v (Err e) ok err kept same = unchanged err

  pub taken : (a : O → Bool) → rows' ≡ remove rows k → ((old : X) → get rows k ≡ Some old → (o : O) → is_of o old ≡ a o)
      → ((o : O) (q : K) → contains_key index' (under o q) ≡ (not (a o && eq_by_cmp R q k) && contains_key index (under o q))) → IsIndex Q R is_of rows' index'
  taken a e owners forgotten o q =
      forgotten o q ∙ ap (λ b. not (a o && eq_by_cmp R q k) && b) (x o q)
      ∙ gone_row (is_of o) (a o) (eq_by_cmp R q k) (get rows q) (λ t old kept. owners old (sym (at_key q t) ∙ kept) o)
      ∙ ap (is_kept_and (is_of o)) (sym (get-remove total rows k q)) ∙ ap (λ m. is_kept_and (is_of o) (get m q)) (sym e)

  pub none_taken : rows' ≡ remove rows k → get rows k ≡ None → IsIndex Q R is_of rows' index
  none_taken e none o q =
      x o q ∙ no_row (is_of o) (eq_by_cmp R q k) (get rows q) (λ t. at_key q t ∙ none)
      ∙ ap (is_kept_and (is_of o)) (sym (get-remove total rows k q)) ∙ ap (λ m. is_kept_and (is_of o) (get m q)) (sym e)

  -- what was forgotten of a key that isn't kept was not there
  pub forgot_none : (w : O) → rows' ≡ rows → get rows k ≡ None → IsForgotten Q R w k index index' → IsIndex Q R is_of rows' index'
  forgot_none w e none forgotten o q =
      forgotten o q ∙ ap (λ b. not (eq_by_cmp Q o w && eq_by_cmp R q k) && b) (x o q)
      ∙ still_none (is_of o) (eq_by_cmp Q o w) (eq_by_cmp R q k) (get rows q) (λ t. at_key q t ∙ none)
      ∙ ap (λ m. is_kept_and (is_of o) (get m q)) (sym e)

pub empty_index : {O K X : Type 0} (Q : O → O → Ordering) (R : K → K → Ordering) (is_of : O → X → Bool) (rows : FinMap R X) (index : FinMap (owned_cmp Q R) (Unit {0})) → rows ≡ empty → index ≡ empty → IsIndex Q R is_of rows index
empty_index Q R is_of rows index e i o q =
    ap (λ m. contains_key m (under o q)) i ∙ ap is_some (get-empty (owned_cmp Q R) (under o q)) ∙ sym (ap (λ m. is_kept_and (is_of o) (get m q)) e ∙ ap (is_kept_and (is_of o)) (get-empty R q))

-- ---- what an index tells

module _ {O K : Type 0} {Q : O → O → Ordering} (R : K → K → Ordering) (owners : IsTotalOrder Q) (exact_owners : IsAntisymmetric Q) (w : O) where
  abbrev own_entries : List (OwnedKey O K) → List (OwnedKey O K)
  own_entries is = filter (λ entry. eq_by_cmp Q entry.owner w) is

  abbrev listed : List (OwnedKey O K) → List K
  listed is = flat_map (λ entry. key_list entry.key) is

  one_key : (q : K) (x : Option K) (ks : List K) → is_among R q (key_list x ++ ks) ≡ (is_eq (option_cmp R (Some q) x) || is_among R q ks)
  one_key q None ks = refl
  one_key q (Some k) ks = refl

  among_under : (q : K) (is : List (OwnedKey O K)) → is_among R q (keys_under Q w is) ≡ list_any (eq_by_cmp (owned_cmp Q R) (under w q)) is
  among_under q [] = refl
  among_under q (i ∷ is) =
      (elim (eq_by_cmp Q i.owner w) as (λ b. is_among R q (listed (cond b (i ∷ own_entries is) (own_entries is))) ≡ ((b && is_eq (option_cmp R (Some q) i.key)) || is_among R q (listed (own_entries is)))) [
        | true ↦ one_key q i.key (listed (own_entries is))
        | false ↦ refl
      ])
      ∙ ap (λ b. (b && is_eq (option_cmp R (Some q) i.key)) || is_among R q (listed (own_entries is))) ((eq_by_cmp_equiv owners).symm i.owner w)
      ∙ ap (λ b. b || is_among R q (listed (own_entries is))) (sym (both_tied (Q w i.owner) (option_cmp R (Some q) i.key)))
      ∙ ap (λ b. eq_by_cmp (owned_cmp Q R) (under w q) i || b) (among_under q is)

  next_key : (k : K) (v : O) (x : Option K) (ks : List K) → v ≡ w → ordering_then (Q w v) (option_cmp R (Some k) x) ≡ Less → AllByRecursion (λ y. R k y ≡ Less) ks → AllByRecursion (λ y. R k y ≡ Less) (key_list x ++ ks)
  next_key k v None ks e h all = all
  next_key k v (Some y) ks e h all = (sym (ap (λ r. ordering_then r (R k y)) (ap (Q w) e ∙ tied_itself owners w)) ∙ h, all)

  all_under : (k : K) (is : List (OwnedKey O K)) → AllByRecursion (λ i. owned_cmp Q R (under w k) i ≡ Less) is → AllByRecursion (λ y. R k y ≡ Less) (keys_under Q w is)
  all_under k [] h = tt
  all_under k (i ∷ is) h = elim (eq_by_cmp Q i.owner w) as (λ b. eq_by_cmp Q i.owner w ≡ b → AllByRecursion (λ y. R k y ≡ Less) (listed (cond b (i ∷ own_entries is) (own_entries is)))) [
    | true ↦ λ t. next_key k i.owner i.key (listed (own_entries is)) (exact_owners i.owner w (tied (Q i.owner w) t)) h.0 (all_under k is h.1)
    | false ↦ λ t. all_under k is h.1
  ] refl

  first_key : (i : OwnedKey O K) (x : Option K) (is : List (OwnedKey O K)) → i.owner ≡ w → i.key ≡ x → AllByRecursion (λ j. owned_cmp Q R i j ≡ Less) is → IsStrictlySortedBy R (keys_under Q w is) → IsStrictlySortedBy R (key_list x ++ keys_under Q w is)
  unfolding IsStrictlySortedBy
  first_key i None is e f h s = s
  first_key i (Some k) is e f h s =
      let here : i ≡ under w k = ap (λ (v : O). (let it : OwnedKey O K = record { owner = v; key = i.key } in it)) e ∙ ap (λ (x : Option K). (let it : OwnedKey O K = record { owner = w; key = x } in it)) f in
      (all_under k is (subst (λ j. AllByRecursion (λ y. owned_cmp Q R j y ≡ Less) is) here h), s)

  under_rises : (is : List (OwnedKey O K)) → IsStrictlySortedBy (owned_cmp Q R) is → IsStrictlySortedBy R (keys_under Q w is)
  unfolding IsStrictlySortedBy
  under_rises [] s = tt
  under_rises (i ∷ is) s = elim (eq_by_cmp Q i.owner w) as (λ b. eq_by_cmp Q i.owner w ≡ b → IsStrictlySortedBy R (listed (cond b (i ∷ own_entries is) (own_entries is)))) [
    | true ↦ λ t. first_key i i.key is (exact_owners i.owner w (tied (Q i.owner w) t)) refl s.0 (under_rises is s.1)
    | false ↦ λ t. under_rises is s.1
  ] refl

-- the keys under an owner are those of the owner's rows, in their order
pub tells : {O K X : Type 0} (Q : O → O → Ordering) (R : K → K → Ordering) (owners : IsTotalOrder Q) (exact_owners : IsAntisymmetric Q) (total : IsTotalOrder R) (exact : IsAntisymmetric R)
    (key : X → K) (is_of : O → X → Bool) (rows : FinMap R X) (index : FinMap (owned_cmp Q R) (Unit {0})) → IsIndex Q R is_of rows index → OwnKeys key rows
    → (w : O) → keys_under Q w (keys index) ≡ map key (filter (is_of w) (values rows))
tells Q R owners exact_owners total exact key is_of rows index x own w =
    same_keys total exact _ _
    (under_rises R owners exact_owners w (keys index) (rise (owned_cmp Q R) (entries index) (entries_sorted index)))
    (found_rise total exact key (is_of w) rows own)
    (λ q. among_under R owners exact_owners w q (keys index) ∙ sym (contains_key-keys index (under w q)) ∙ x w q
    ∙ sym (found_among total exact key (is_of w) rows own q))

pub on_ok : {A E : Type 0} (r : Result A E) {P P' : Type 0} → (P → P') → OnOk r P → OnOk r P'
on_ok (Ok v) f h = f h
on_ok (Err e) f h = tt

pub on_err : {A E : Type 0} (r : Result A E) {P P' : Type 0} → (P → P') → OnErr r P → OnErr r P'
on_err (Ok v) f h = tt
on_err (Err e) f h = f h

pub if_ok : {A E : Type 0} (r : Result A E) {P P' : A → Type 0} → ((v : A) → P v → P' v) → IfOk r P → IfOk r P'
if_ok (Ok v) f h = f v h
if_ok (Err e) f h = tt

-- a key under two owners
pub noted_twice : (a c b h : Bool) → ((c && b) || ((a && b) || h)) ≡ (((a || c) && b) || h)
noted_twice true true true h = refl
noted_twice true false true h = refl
noted_twice false true true h = refl
noted_twice false false true h = refl
noted_twice true true false h = refl
noted_twice true false false h = refl
noted_twice false true false h = refl
noted_twice false false false h = refl

pub forgotten_twice : (a c b h : Bool) → (not (c && b) && (not (a && b) && h)) ≡ (not ((a || c) && b) && h)
forgotten_twice true true true h = refl
forgotten_twice true false true h = refl
forgotten_twice false true true h = refl
forgotten_twice false false true h = refl
forgotten_twice true true false h = refl
forgotten_twice true false false h = refl
forgotten_twice false true false h = refl
forgotten_twice false false false h = refl

pub noted_forgotten : (a b h : Bool) → (not (a && b) && ((a && b) || h)) ≡ (not (a && b) && h)
noted_forgotten true true h = refl
noted_forgotten true false h = refl
noted_forgotten false b h = refl
