-- What a seat of the table knows, before and after each step.
use Rattle.std.specs.Prelude.{ℕ, ◌+◌, ◌-◌, ◌==◌, max, Bool, false, ltb, List, [], ◌++◌, if◌then◌else◌, Option, Some, None}
use Rattle.desk.specs.declared.turn.SeatView.{SeatView}
use Rattle.desk.specs.declared.turn.Stage.TheVariants.{Idle, Met, Spent}
use Rattle.desk.specs.OwnEntries.{StandIn, RisesFrom, added, merged, longer}

-- the first seat counts one more that it split off
abbrev pub one_more : Option ℕ → Option ℕ
one_more None = None
one_more (Some n) = Some (n + 1)

-- the first seat counts one less, since it took it in
abbrev pub one_less : Option ℕ → Option ℕ
one_less None = None
one_less (Some n) = Some (n - 1)

-- it is the first seat, and has taken in again all that it split off
abbrev pub only : Option ℕ → Bool
only None = false
only (Some n) = n == 0

module _ {B E A : Type 0} where
  -- a seat that was joined away
  abbrev pub spent : SeatView B E A
  spent = record { stage = Spent; base = None; seen = []; mine = []; failed = 0; faults = 0; others = None }

  -- the first seat has split off one more
  abbrev pub shared : SeatView B E A → SeatView B E A
  shared d = record d { others = one_more d.others }

  -- the seat that is split from it: it has seen as much, and has made nothing
  abbrev pub split_off : SeatView B E A → SeatView B E A
  split_off d = record { stage = Idle; base = d.base; seen = d.seen; mine = []; failed = 0; faults = d.faults; others = None }

  -- a seat that has met another, which is spent then
  abbrev pub met : SeatView B E A → SeatView B E A → SeatView B E A
  met d e = record d { stage = Met e.seen e.mine; failed = d.failed + e.failed; faults = max d.faults e.faults; others = one_less d.others }

  -- a seat that has met one which had seen ys and made qs, and took them in
  abbrev pub settled_as : List E → List (ℕ × E) → SeatView B E A → SeatView B E A
  settled_as ys qs d = record d { stage = Idle; seen = longer d.seen ys; mine = merged d.mine qs }

  -- own entries stand in what was seen, each once and in order
  abbrev pub IsOrdered : SeatView B E A → Type 0
  IsOrdered d = StandIn d.seen d.mine × RisesFrom 0 d.mine

-- a seat after a visit that found the book b and left it as b'
abbrev pub after : {B E A : Type 0} → (B → List E) → (B → ℕ) → B → B → SeatView B E A → SeatView B E A
after entries faults b b' d = record {
  stage = Idle;
  base = d.base;
  seen = entries b';
  mine = d.mine ++ added (entries b) (entries b');
  failed = d.failed + (if ltb (faults b) (faults b') then 1 else 0);
  faults = faults b';
  others = d.others;
}
