-- What contracts see of a pass.
use Rattle.std.specs.Prelude.{◌≡◌, ℕ, Bool, true, false, List, [], Option, Some, None}
use Rattle.atomic_table.specs.Seated.{TableId}
use Rattle.desk.specs.declared.turn.SeatView.{SeatView}
use Rattle.desk.specs.OwnEntries.{placed}
use Rattle.desk.specs.Seats.{only}

-- of which desk it is, the base of the book, the history that it has seen, its own entries with their places, how many of its visits met a
-- failing keeper, how many faults the book had told when it was last seen; of the first pass, how many it split off that it hasn't taken in
-- again; and whether it is the only one
pub record PassState (E A : Type 0) : Type 0 where
  pub of : TableId
  pub base : Option A
  pub seen : List E
  pub mine : List (ℕ × E)
  pub failed : ℕ
  pub faults : ℕ
  pub others : Option ℕ
  pub alone : Bool

abbrev pub pass_state : {B E A : Type 0} → TableId → SeatView B E A → PassState E A
pass_state t d = record {
  of = t;
  base = d.base;
  seen = d.seen;
  mine = d.mine;
  failed = d.failed;
  faults = d.faults;
  others = d.others;
  alone = only d.others;
}

-- a pass that was split off: it has seen this list and this count of faults, and has made nothing
abbrev pub fresh : {E A : Type 0} → TableId → Option A → List E → ℕ → PassState E A
fresh t a h n = record { of = t; base = a; seen = h; mine = []; failed = 0; faults = n; others = None; alone = false }

-- the first pass of a book of this base, history and count of faults. What the book was opened with is its own
abbrev pub opening : {E A : Type 0} → TableId → A → List E → ℕ → PassState E A
opening t a h n = record { of = t; base = Some a; seen = h; mine = placed 0 h; failed = 0; faults = n; others = Some 0; alone = true }

-- q is p at a later time: of the same desk and base, and alone where it was
abbrev pub IsSamePass : {E A : Type 0} → PassState E A → PassState E A → Type 0
IsSamePass p q = (q.of ≡ p.of) × (q.base ≡ p.base) × (q.alone ≡ p.alone)
