-- What the steps of a pass ask of the table and of its seat.
use Rattle.std.specs.Prelude.{◌≡◌, []}
use Rattle.atomic_table.specs.Seated.{TableId}
use Rattle.atomic_table.specs.declared.shared.Seat.{Seat}
use Rattle.desk.specs.declared.turn.SeatView.{SeatView}
use Rattle.desk.specs.declared.turn.Stage.TheVariants.{Idle}
use Rattle.std.specs.Prelude.{Option}

abbrev pub IsSized : TableId → Type 0
IsSized t = (t.words ≡ 1) × (t.slots ≡ 1)

module _ {B E A : Type 0} where
  abbrev pub IsSame : Seat (Option B) (SeatView B E A) → Seat (Option B) (SeatView B E A) → Type 0
  IsSame s t = (t.table_id ≡ s.table_id) × (t.id ≡ s.id)

  -- between two visits
  abbrev pub IsIdle : Seat (Option B) (SeatView B E A) → Type 0
  IsIdle s = (s.me.0.stage ≡ Idle) × (s.me.1 ≡ [])
