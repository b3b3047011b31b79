-- What each step tells the seat that makes it. The word was n, and what the seat knows and has in hand goes from m to m'.
use Rattle.std.specs.Prelude.{◌≡◌, ℕ, ◌%◌, ◌≤◌, true, List, [], ◌∷◌, Option, Some}
use mathlib.Core.List.{IsPrefix}
use Rattle.atomic_table.specs.Table.{Me, Step}
use Rattle.desk.specs.declared.turn.SeatView.{SeatView}
use Rattle.desk.specs.declared.turn.Stage.TheVariants.{Held, Met}
use Rattle.desk.specs.OwnEntries.{placed, Agree, Apart}
use Rattle.desk.specs.Seats.{IsOrdered, only, settled_as, after}

module _ {B E A : Type 0} where
  -- the seat has taken in the one that it met: both had seen beginnings of one list, and had made different entries of it
  abbrev pub settled : Step (Option B) → Me (Option B) (SeatView B E A) → ℕ → Me (Option B) (SeatView B E A) → Type 0
  settled st m n m' = (ys : List E) (qs : List (ℕ × E)) → m.0.stage ≡ Met ys qs
      → (m' ≡ (settled_as ys qs m.0, m.1)) × Agree m.0.seen ys × Apart m.0.mine qs × IsOrdered m'.0

module _ {B E A : Type 0} (entries : B → List E) (base : B → A) (faults : B → ℕ) where
  -- the book begins with what the seat has seen and has told no fewer faults. Where the seat is alone it is just that, and each entry is
  -- the seat's own
  abbrev pub Finds : SeatView B E A → B → Type 0
  Finds d b = IsPrefix d.seen (entries b) × (d.base ≡ Some (base b)) × (d.faults ≤ faults b)
      × (only d.others ≡ true → entries b ≡ d.seen) × (only d.others ≡ true → faults b ≡ d.faults)
      × (only d.others ≡ true → d.mine ≡ placed 0 d.seen)

  -- where the word was even the seat has the turn and the book; where it was odd nothing happened
  abbrev pub taken : Step (Option B) → Me (Option B) (SeatView B E A) → ℕ → Me (Option B) (SeatView B E A) → Type 0
  taken st m n m' = (n % 2 ≡ 1 → m' ≡ m)
      × (n % 2 ≡ 0 → (b : B) × (m' ≡ (record m.0 { stage = Held b }, (0, Some b) ∷ m.1)) × Finds m.0 b)

-- the seat that held the turn with the book b gave back the book b', and with it the turn
abbrev pub given : {B E A : Type 0} → (B → List E) → (B → ℕ) → Step (Option B) → Me (Option B) (SeatView B E A) → ℕ
    → Me (Option B) (SeatView B E A) → Type 0
given {B} entries faults st m n m' = (b b' : B) → m.0.stage ≡ Held b → m.1 ≡ (0, Some b') ∷ [] → (m' ≡ (after entries faults b b' m.0, []))
    × IsOrdered m'.0
