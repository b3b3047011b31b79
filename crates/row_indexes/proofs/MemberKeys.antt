-- An index of rows under their members stays in step with the rows while it is kept, and tells what a scan over them does.
use Rattle.std.proofs.Common.{◌≡◌, ℕ, ◌+◌, ◌<◌, length, take, get_or, Bool, true, false, not, ◌&&◌, ◌||◌, cond, List, [], Option, Some, None, map, refl, sym, ap, ◌∙◌, subst}
use Rattle.std.specs.declared.cmp.Ordering.{Ordering}
use Rattle.std.specs.Ordering.{eq_by_cmp}
use Rattle.std.specs.Cmp.{IsTotalOrder}
use Rattle.std.specs.FinMap.{FinMap, IsAntisymmetric, keys, values, get, insert, remove, empty, contains_key, get-insert, get-remove, get_tied}
use Rattle.std.specs.BTreeMap.{BTreeMap}
use Rattle.std.specs.List.{filter}
use Rattle.std.proofs.lemmas.List.Folds.{list_any_more}
use Rattle.keyed_rows.specs.Rows.{OwnKeys, map_of, is_kept_and}
use Rattle.keyed_rows.specs.Sorted.{is_among}
use Rattle.keyed_rows.proofs.Finite.{tied, clash}
use Rattle.row_indexes.specs.declared.owned.OwnedKey.{OwnedKey}
use Rattle.row_indexes.specs.Owned.{owned_cmp, under, keys_under, IsIndex, IsNoted}
use Rattle.row_indexes.specs.Members.{members_in, TellsMembers, IsFollowed, IsFollowedIn}
use Rattle.row_indexes.proofs.Indexed.{empty_index, tells}

-- a key that stood under a member as long as its old row had it stands there now where the new one has
stands_now : (new old : Bool) → (((new && not old) && true) || (not ((old && not new) && true) && old)) ≡ new
stands_now true true = refl
stands_now true false = refl
stands_now false true = refl
stands_now false false = refl

as_before : (new old was : Bool) → (((new && not old) && false) || (not ((old && not new) && false) && was)) ≡ was
as_before true true was = refl
as_before true false was = refl
as_before false true was = refl
as_before false false was = refl

one_row : {X : Type 0} (test : X → Bool) (here new old : Bool) (row was : Option X) → (here ≡ true → is_kept_and test was ≡ old) → is_kept_and test row ≡ new
    → (((new && not old) && here) || (not ((old && not new) && here) && is_kept_and test was)) ≡ is_kept_and test (cond here row was)
one_row test true new old row was h e = ap (λ b. ((new && not old) && true) || (not ((old && not new) && true) && b)) (h refl) ∙ stands_now new old ∙ sym e
one_row test false new old row was h e = as_before new old (is_kept_and test was)

module _ {M K X : Type 0} (Q : M → M → Ordering) (R : K → K → Ordering) (members_of : X → List M) (rows rows' : FinMap R X) where
  abbrev has : M → X → Bool
  has member row = is_among Q member (members_of row)

  has_it : (member : M) (row : Option X) (members : List M) → members ≡ members_in members_of row → is_kept_and (has member) row ≡ is_among Q member members
  has_it member None members e = ap (is_among Q member) (sym e)
  has_it member (Some row) members e = ap (is_among Q member) (sym e)

  in_step : IsTotalOrder R → (before after : FinMap (owned_cmp Q R) (Unit {0})) (key : K) (row : Option X) (old new : List M) → IsIndex Q R has rows before
      → ((k : K) → get rows' k ≡ cond (eq_by_cmp R k key) row (get rows k)) → old ≡ members_in members_of (get rows key) → new ≡ members_in members_of row
      → IsFollowedIn Q R key old new before after → IsIndex Q R has rows' after
  in_step total before after key row old new x at o n follows m k =
      follows m k
      ∙ ap (λ b. ((is_among Q m new && not (is_among Q m old)) && eq_by_cmp R k key) || (not ((is_among Q m old && not (is_among Q m new)) && eq_by_cmp R k key) && b)) (x m k)
      ∙ one_row (has m) (eq_by_cmp R k key) (is_among Q m new) (is_among Q m old) row (get rows k)
      (λ t. ap (is_kept_and (has m)) (sym (get_tied total rows k key (tied (R k key) t))) ∙ has_it m (get rows key) old o) (has_it m row new n)
      ∙ ap (is_kept_and (has m)) (sym (at k))

  -- the row of a key was put
  pub followed : IsTotalOrder R → (before after : Option (BTreeMap (OwnedKey M K) (Unit {0}))) (key : K) (value : X) (old new : List M) → TellsMembers Q R members_of rows before
      → rows' ≡ insert rows key value → old ≡ members_in members_of (get rows key) → new ≡ members_of value → IsFollowed Q R key old new before after → TellsMembers Q R members_of rows' after
  followed total before None key value old new x e o n follows = tt
  followed total None (Some after) key value old new x e o n follows = absurd follows
  followed total (Some before) (Some after) key value old new x e o n follows =
      in_step total (map_of (owned_cmp Q R) before) (map_of (owned_cmp Q R) after) key (Some value) old new x (λ k. ap (λ m. get m k) e ∙ get-insert total rows key value k) o n follows

  -- the row of a key was taken out
  pub followed_out : IsTotalOrder R → (before after : Option (BTreeMap (OwnedKey M K) (Unit {0}))) (key : K) (old new : List M) → TellsMembers Q R members_of rows before
      → rows' ≡ remove rows key → old ≡ members_in members_of (get rows key) → new ≡ [] → IsFollowed Q R key old new before after → TellsMembers Q R members_of rows' after
  followed_out total before None key old new x e o n follows = tt
  followed_out total None (Some after) key old new x e o n follows = absurd follows
  followed_out total (Some before) (Some after) key old new x e o n follows =
      in_step total (map_of (owned_cmp Q R) before) (map_of (owned_cmp Q R) after) key None old new x (λ k. ap (λ m. get m k) e ∙ get-remove total rows key k) o n follows

  pub unchanged_members : (index : Option (BTreeMap (OwnedKey M K) (Unit {0}))) → TellsMembers Q R members_of rows index → rows' ≡ rows → TellsMembers Q R members_of rows' index
  unchanged_members None x e = tt
  unchanged_members (Some index) x e = λ m k. x m k ∙ ap (λ r. is_kept_and (has m) (get r k)) (sym e)

pub empty_members : {M K X : Type 0} (Q : M → M → Ordering) (R : K → K → Ordering) (members_of : X → List M) (rows : FinMap R X) (index : Option (BTreeMap (OwnedKey M K) (Unit {0}))) (new : BTreeMap (OwnedKey M K) (Unit {0}))
    → rows ≡ empty → index ≡ Some new → map_of (owned_cmp Q R) new ≡ empty → TellsMembers Q R members_of rows index
empty_members Q R members_of rows index new e i n =
    subst (TellsMembers Q R members_of rows) (sym i) (empty_index Q R (λ member row. is_among Q member (members_of row)) rows (map_of (owned_cmp Q R) new) e n)

-- the keys under a member are those of the rows that have the member, in their order
pub members_tell : {M K X : Type 0} (Q : M → M → Ordering) (R : K → K → Ordering) (members : IsTotalOrder Q) (exact_members : IsAntisymmetric Q) (total : IsTotalOrder R) (exact : IsAntisymmetric R)
    (key : X → K) (members_of : X → List M) (rows : FinMap R X) (index : BTreeMap (OwnedKey M K) (Unit {0})) → TellsMembers Q R members_of rows (Some index) → OwnKeys key rows
    → (member : M) → keys_under Q member (keys (map_of (owned_cmp Q R) index)) ≡ map key (filter (λ row. is_among Q member (members_of row)) (values rows))
members_tell Q R members exact_members total exact key members_of rows index x own =
    tells Q R members exact_members total exact key (λ member row. is_among Q member (members_of row)) rows (map_of (owned_cmp Q R) index) x own

-- ---- a walk over the members

note_one : (was kept at here before : Bool) → (at ≡ true → kept ≡ false) → ((at && here) || (((was && not kept) && here) || before)) ≡ ((((was || at) && not kept) && here) || before)
note_one true true true here before h = absurd (clash true refl (h refl))
note_one true true false here before h = refl
note_one true false true true before h = refl
note_one true false true false before h = refl
note_one true false false here before h = refl
note_one false true true here before h = absurd (clash true refl (h refl))
note_one false true false here before h = refl
note_one false false true true before h = refl
note_one false false true false before h = refl
note_one false false false here before h = refl

pass_one : (was kept at here before : Bool) → (at ≡ true → kept ≡ true) → (((was && not kept) && here) || before) ≡ ((((was || at) && not kept) && here) || before)
pass_one true kept at here before h = refl
pass_one false true true here before h = refl
pass_one false false true here before h = absurd (clash false (h refl) refl)
pass_one false kept false here before h = refl

module _ {M K : Type 0} (Q : M → M → Ordering) (R : K → K → Ordering) (members kept : List M) (key : K) (before : FinMap (owned_cmp Q R) (Unit {0})) where
  -- the key stands under the first members that aren't kept ones, and all else is as before
  abbrev pub NotedTo : ℕ → FinMap (owned_cmp Q R) (Unit {0}) → Type 0
  NotedTo count after = (m : M) (k : K) → contains_key after (under m k) ≡ (((is_among Q m (take count members) && not (is_among Q m kept)) && eq_by_cmp R k key) || contains_key before (under m k))

  module _ (exact : IsAntisymmetric Q) (now next : FinMap (owned_cmp Q R) (Unit {0})) (at : ℕ) (member : M) (inside : at < length members) (is : member ≡ get_or members at member) where
    one_more : (m : M) → is_among Q m (take (at + 1) members) ≡ (is_among Q m (take at members) || eq_by_cmp Q m member)
    one_more m = list_any_more (eq_by_cmp Q m) members at member inside ∙ ap (λ y. is_among Q m (take at members) || eq_by_cmp Q m y) (sym is)

    same_test : (m : M) (b : Bool) → is_among Q member kept ≡ b → eq_by_cmp Q m member ≡ true → is_among Q m kept ≡ b
    same_test m b h t = ap (λ y. is_among Q y kept) (exact m member (tied (Q m member) t)) ∙ h

    more_noted : (m : M) (k : K) → ((((is_among Q m (take at members) || eq_by_cmp Q m member) && not (is_among Q m kept)) && eq_by_cmp R k key) || contains_key before (under m k))
        ≡ (((is_among Q m (take (at + 1) members) && not (is_among Q m kept)) && eq_by_cmp R k key) || contains_key before (under m k))
    more_noted m k = ap (λ b. ((b && not (is_among Q m kept)) && eq_by_cmp R k key) || contains_key before (under m k)) (sym (one_more m))

    pub noted_on : NotedTo at now → is_among Q member kept ≡ false → IsNoted Q R member key now next → NotedTo (at + 1) next
    noted_on so_far other noted m k =
        noted m k ∙ ap (λ b. (eq_by_cmp Q m member && eq_by_cmp R k key) || b) (so_far m k)
        ∙ note_one (is_among Q m (take at members)) (is_among Q m kept) (eq_by_cmp Q m member) (eq_by_cmp R k key) (contains_key before (under m k)) (same_test m false other) ∙ more_noted m k

    pub passed_on : NotedTo at now → is_among Q member kept ≡ true → next ≡ now → NotedTo (at + 1) next
    passed_on so_far one same m k =
        ap (λ i. contains_key i (under m k)) same ∙ so_far m k
        ∙ pass_one (is_among Q m (take at members)) (is_among Q m kept) (eq_by_cmp Q m member) (eq_by_cmp R k key) (contains_key before (under m k)) (same_test m true one) ∙ more_noted m k
