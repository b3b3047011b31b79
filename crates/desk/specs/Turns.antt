-- The rule of the turn: what holds of the table between any two steps.
use Rattle.std.specs.Prelude.{◌≡◌, ◌≢◌, ◌⊎◌, ℕ, ◌+◌, ◌*◌, ◌<◌, ◌≤◌, Bool, true, false, List, [], ◌∷◌, length, slice_index, if◌then◌else◌}
use Rattle.std.specs.Prelude.{Option, Some}
use mathlib.Core.Option.{some}
use mathlib.Core.List.{IsPrefix}
use lib.ListN.{get_elem?}
use Rattle.atomic_table.specs.Table.{State}
use Rattle.desk.specs.declared.turn.SeatView.{SeatView}
use Rattle.desk.specs.declared.turn.Stage.{Stage}
use Rattle.desk.specs.declared.turn.Stage.TheVariants.{Idle, Held, Met, Spent}
use Rattle.desk.specs.OwnEntries.{placed, StandIn, Owns, RisesFrom, Apart}

-- the word of a history
abbrev pub word_of : {E : Type 0} → Bool → List E → ℕ
word_of held history = 2 * length history + (if held then 1 else 0)

-- the pass that the seat has met had an own entry at the place n
abbrev pub MetOwns : {B E : Type 0} → ℕ → Stage B E → Type 0
MetOwns n (Met ys qs) = Owns n qs
MetOwns n _ = ⊥

-- the pass that the seat has met had seen this
abbrev pub MetSaw : {B E : Type 0} → List E → Stage B E → Type 0
MetSaw xs (Met ys qs) = ys ≡ xs
MetSaw xs _ = ⊥

-- 0 of a seat that was joined away
abbrev pub seat_there : {B E : Type 0} → Stage B E → ℕ
seat_there Spent = 0
seat_there _ = 1

module _ {B E A : Type 0} where
  -- how many of the seats weren't joined away
  abbrev pub there : List (SeatView B E A) → ℕ
  there [] = 0
  there (d ∷ ds) = seat_there d.stage + there ds

  -- one of those is such
  abbrev pub OneIs : List (SeatView B E A) → (SeatView B E A → Type 0) → Type 0
  OneIs views Such = (j : ℕ) × (d : SeatView B E A) × (get_elem? views j ≡ some d) × (d.stage ≢ Spent) × Such d

  -- the seat has seen this, or the pass that it has met had
  abbrev pub Saw : List E → SeatView B E A → Type 0
  Saw xs d = (d.seen ≡ xs) ⊎ MetSaw xs d.stage

  -- the place n is of an own entry of the seat, or of the pass that it has met
  abbrev pub Keeps : ℕ → SeatView B E A → Type 0
  Keeps n d = Owns n d.mine ⊎ MetOwns n d.stage

  -- no place is kept by two seats
  abbrev pub AreApart : List (SeatView B E A) → Type 0
  AreApart views = (i j : ℕ) (d e : SeatView B E A) → get_elem? views i ≡ some d → get_elem? views j ≡ some e → i ≢ j → (n : ℕ) → Keeps n d
      → Keeps n e → ⊥

module _ {B E A : Type 0} (entries : B → List E) (base : B → A) (faults : B → ℕ) where
  -- the first seat of a table with this book
  abbrev pub first : B → SeatView B E A
  first b = record {
    stage = Idle;
    base = Some (base b);
    seen = entries b;
    mine = placed 0 (entries b);
    failed = 0;
    faults = faults b;
    others = Some 0;
  }

  -- the book b has this base, this history and this count of faults
  abbrev pub Stands : A → List E → ℕ → B → Type 0
  Stands fixed history count b = (entries b ≡ history) × (base b ≡ fixed) × (faults b ≡ count)

  -- what its stage says of a seat with this base and these own entries: the one that holds the turn knows the book, and what a seat has met
  -- stands in the history, apart from its own. fixed, history and count are of the book, held and holder of the turn (the number of the
  -- seat that has it), and seat, known and mine of this seat: its number, the base that it knows and its own entries
  abbrev pub IsAt : A → List E → ℕ → Bool → ℕ → ℕ → Option A → List (ℕ × E) → Stage B E → Type 0
  IsAt fixed history count held holder seat known mine Idle = known ≡ Some fixed
  IsAt fixed history count held holder seat known mine (Held b) = (known ≡ Some fixed) × (held ≡ true) × (seat ≡ holder)
      × Stands fixed history count b
  IsAt fixed history count held holder seat known mine (Met ys qs) = (known ≡ Some fixed) × IsPrefix ys history × StandIn ys qs
      × RisesFrom 0 qs × Apart mine qs
  IsAt fixed history count held holder seat known mine Spent = Unit {0}

  -- what is true of each seat
  pub record Knows (fixed : A) (history : List E) (count : ℕ) (held : Bool) (holder seat : ℕ) (d : SeatView B E A) : Type 0 where
    pub begins : IsPrefix d.seen history
    pub stand : StandIn d.seen d.mine
    pub rises : RisesFrom 0 d.mine
    pub counted : d.faults ≤ count
    pub at : IsAt fixed history count held holder seat d.base d.mine d.stage

  -- there is one base, one history, one count of faults, and maybe one seat that holds the turn; while nobody holds it the book is at home.
  -- The seat that counts others is the first, and no more of them are there than it counts. Of the seats that are there one knows the whole
  -- history, one the very count of faults, and each place is kept by one
  pub record Turned (s : State (Option B) (SeatView B E A)) : Type 0 where
    pub base_is : A
    pub history : List E
    pub count : ℕ
    pub held : Bool
    pub holder : ℕ
    pub wide : length s.words ≡ 1
    pub deep : length s.homes ≡ 1
    pub word : slice_index s.words 0 ≡ word_of held history
    pub home : held ≡ false → (b : B) × (get_elem? s.homes 0 ≡ some (some (Some b))) × Stands base_is history count b
    pub each : (j : ℕ) (d : SeatView B E A) → get_elem? s.views j ≡ some d → Knows base_is history count held holder j d
    pub apart : AreApart s.views
    pub counts : (j : ℕ) (d : SeatView B E A) (n : ℕ) → get_elem? s.views j ≡ some d → d.others ≡ Some n → (j ≡ 0) × (there s.views ≤ n + 1)
    pub known : OneIs s.views (Saw history)
    pub told : OneIs s.views (λ d. d.faults ≡ count)
    pub kept : (n : ℕ) → n < length history → OneIs s.views (Keeps n)
