-- Which answer a put gives.
use Rattle.std.specs.Prelude.{◌≡◌, ℕ, ◌-◌, nat_le, true, false, Option, Some, None, Result, Ok, Err, if◌then◌else◌}
use Rattle.std.specs.declared.cmp.Ordering.{Ordering}
use Rattle.std.specs.FinMap.{FinMap, len, contains_key, insert}
use Rattle.keyed_rows.specs.declared.Room.{Room}
use Rattle.keyed_rows.specs.declared.PutError.{PutError}
use Rattle.keyed_rows.specs.declared.PutError.TheVariants.{Full, Memory}
use Rattle.keyed_rows.specs.Rows.{IsPutAnswer}

-- the answer of a put of a kind with a limit, at a key: `Full` exactly where the key is new and the rows less those that leave have reached
-- the limit
abbrev pub IsAnswer : {K X : Type 0} {R : K → K → Ordering} → (kind limit : ℕ) → FinMap R X → K → (leaving : ℕ) → Result (Unit {0}) PutError
    → Type 0
IsAnswer kind limit rows key leaving result = IsPutAnswer kind limit (len rows) leaving (contains_key rows key) result

-- the answer of a put of a kind without a limit: never `Full`, and out of memory only at a new key
abbrev pub IsFreeAnswer : {K X : Type 0} {R : K → K → Ordering} → FinMap R X → K → Result (Unit {0}) PutError → Type 0
IsFreeAnswer rows key (Ok _) = Unit {0}
IsFreeAnswer rows key (Err (Full kind limit)) = ⊥
IsFreeAnswer rows key (Err Memory) = contains_key rows key ≡ false

-- either of the two
abbrev pub IsAnswerIn : {K X : Type 0} {R : K → K → Ordering} → Option Room → FinMap R X → K → Result (Unit {0}) PutError → Type 0
IsAnswerIn None rows key result = IsFreeAnswer rows key result
IsAnswerIn (Some room) rows key result = IsAnswer room.kind room.limit rows key room.leaving result

-- whether a row more has room among so many
abbrev pub room_left : ℕ → Option Room → Result (Unit {0}) PutError
room_left rows None = Ok tt
room_left rows (Some room) = if nat_le room.limit (rows - room.leaving) then Err (Full room.kind room.limit) else Ok tt

-- a value takes the place of the kept row of its key, or is handed back where none is kept
abbrev pub Replaces : {K X : Type 0} {R : K → K → Ordering} → FinMap R X → K → X → FinMap R X → Option X → Type 0
Replaces rows key value after None = (contains_key rows key ≡ true) × (after ≡ insert rows key value)
Replaces rows key value after (Some back) = (contains_key rows key ≡ false) × (after ≡ rows) × (back ≡ value)
