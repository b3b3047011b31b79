-- Rows under keys: a tree's entries as a finite map, and what a put answers.
use Rattle.std.specs.Prelude.{◌≡◌, ℕ, ◌-◌, ◌<◌, ◌≤◌, Bool, false, ◌||◌, ◌&&◌, not, nat_lt, nat_le, Result, Ok, Err, Option, Some, None}
use Rattle.std.specs.Bool.{IsTrue}
use Rattle.std.specs.declared.cmp.Ordering.{Ordering}
use Rattle.std.specs.BTreeMap.{BTreeMap}
use Rattle.std.specs.FinMap.{FinMap, from_entries, get}
use Rattle.keyed_rows.specs.declared.PutError.{PutError}
use Rattle.keyed_rows.specs.declared.PutError.TheVariants.{Full, Memory}

-- the finite map that a tree holds
abbrev pub map_of : {K X : Type 0} (R : K → K → Ordering) → BTreeMap K X → FinMap R X
map_of R m = from_entries m.entries

-- whether there is no room for a row
abbrev pub is_full : Bool → (rows leaving limit : ℕ) → Bool
is_full kept rows leaving limit = not kept && nat_le limit (rows - leaving)

-- which answer a put gives: `Full` exactly where the key is new and the rows that stay have reached the limit; out of memory only at a new
-- key with room
abbrev pub IsPutAnswer : (kind limit rows leaving : ℕ) → Bool → Result (Unit {0}) PutError → Type 0
IsPutAnswer kind limit rows leaving kept (Ok _) = IsTrue (kept || nat_lt (rows - leaving) limit)
IsPutAnswer kind limit rows leaving kept (Err (Full k l)) = (kept ≡ false) × (limit ≤ rows - leaving) × (k ≡ kind) × (l ≡ limit)
IsPutAnswer kind limit rows leaving kept (Err Memory) = (kept ≡ false) × (rows - leaving < limit)

-- each row stands under its own key
abbrev pub OwnKeys : {K X : Type 0} {R : K → K → Ordering} → (X → K) → FinMap R X → Type 0
OwnKeys {K} {X} key m = (q : K) (row : X) → get m q ≡ Some row → key row ≡ q

-- whether a row is kept and passes a test
abbrev pub is_kept_and : {X : Type 0} → (X → Bool) → Option X → Bool
is_kept_and test None = false
is_kept_and test (Some row) = test row
