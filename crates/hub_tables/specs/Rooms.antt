-- When the limit of a kind of rows holds.
use Rattle.std.specs.Prelude.{ℕ, Option, Some, None, Result, Ok, Err}
use Rattle.keyed_rows.specs.declared.PutError.{PutError}
use Rattle.keyed_rows.specs.declared.PutError.TheVariants.{Memory}
use Rattle.keyed_rows.specs.declared.Room.{Room}

-- the limit of the kind, less the rows that leave; without a number of these there is none
abbrev pub room_of : (kind limit : ℕ) → (leaving : Option ℕ) → Option Room
room_of kind limit None = None
room_of kind limit (Some leaving) = Some (record { kind = kind; limit = limit; leaving = leaving })

-- the error of a row for which there is no memory, by whether it has room
abbrev pub for_memory : Result (Unit {0}) PutError → PutError
for_memory (Ok _) = Memory
for_memory (Err full) = full
