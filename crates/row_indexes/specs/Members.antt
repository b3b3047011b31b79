-- Rows under each of their members, and what an index of them tells while it is kept.
use Rattle.std.specs.Prelude.{Bool, false, not, IsTrue, ◌&&◌, ◌||◌, ◌≡◌, List, [], Option, Some, None, Result, Ok, Err}
use Rattle.std.specs.declared.cmp.Ordering.{Ordering}
use Rattle.std.specs.Ordering.{eq_by_cmp}
use Rattle.std.specs.List.{list_any}
use Rattle.std.specs.FinMap.{FinMap, get, contains_key}
use Rattle.std.specs.BTreeMap.{BTreeMap}
use Rattle.keyed_rows.specs.Rows.{map_of}
use Rattle.keyed_rows.specs.Sorted.{is_among}
use Rattle.row_indexes.specs.declared.owned.OwnedKey.{OwnedKey}
use Rattle.row_indexes.specs.Owned.{owned_cmp, under, IsIndex}

-- what a put answered, without the row that it replaced
abbrev pub answered : {X E : Type 0} → Result X E → Result (Unit {0}) E
answered (Ok old) = Ok tt
answered (Err e) = Err e

-- the members of the row that a key has, if any
abbrev pub members_in : {M X : Type 0} → (X → List M) → Option X → List M
members_in members_of None = []
members_in members_of (Some row) = members_of row

-- two maps have the same rows but at a key
abbrev pub AreSameBut : {K X : Type 0} {R : K → K → Ordering} → K → (before after : FinMap R X) → Type 0
AreSameBut {K} {R = R} key before after = (k : K) → eq_by_cmp R k key ≡ false → get after k ≡ get before k

-- some member is new
abbrev pub brings : {M : Type 0} → (M → M → Ordering) → (old new : List M) → Bool
brings Q old new = list_any (λ m. not (is_among Q m old)) new

module _ {M K : Type 0} (Q : M → M → Ordering) (R : K → K → Ordering) where
  -- an index that wasn't given up has a key under a member exactly where the row of the key has the member
  abbrev pub TellsMembers : {X : Type 0} → (X → List M) → FinMap R X → Option (BTreeMap (OwnedKey M K) (Unit {0})) → Type 0
  TellsMembers members_of rows None = Unit {0}
  TellsMembers members_of rows (Some index) = IsIndex Q R (λ member row. is_among Q member (members_of row)) rows
      (map_of (owned_cmp Q R) index)

  -- the key stands under the new members in place of the old ones, and all else is as before
  abbrev pub IsFollowedIn : K → (old new : List M) → FinMap (owned_cmp Q R) (Unit {0}) → FinMap (owned_cmp Q R) (Unit {0}) → Type 0
  IsFollowedIn key old new before after = (m : M) (k : K) → contains_key after (under m k)
      ≡ (((is_among Q m new && not (is_among Q m old)) && eq_by_cmp R k key)
      || (not ((is_among Q m old && not (is_among Q m new)) && eq_by_cmp R k key) && contains_key before (under m k)))

  -- the same of an index that may be given up, but only for a new member
  abbrev pub IsFollowed : K → (old new : List M) → (before after : Option (BTreeMap (OwnedKey M K) (Unit {0}))) → Type 0
  IsFollowed key old new None None = Unit {0}
  IsFollowed key old new None (Some after) = ⊥
  IsFollowed key old new (Some before) None = IsTrue (brings Q old new)
  IsFollowed key old new (Some before) (Some after) = IsFollowedIn key old new (map_of (owned_cmp Q R) before)
      (map_of (owned_cmp Q R) after)

  -- an index that told of rows which are the same but at a key, and which have the old row there, tells of the new rows
  abbrev pub IsRowFollowed : {X : Type 0} → (X → List M) → K → (old : Option X) → (rows : FinMap R X)
      → (before after : Option (BTreeMap (OwnedKey M K) (Unit {0}))) → Type 0
  IsRowFollowed {X = X} members_of key old rows before after = (earlier : FinMap R X) → get earlier key ≡ old → AreSameBut key earlier rows
      → TellsMembers members_of earlier before → TellsMembers members_of rows after
