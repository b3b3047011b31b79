-- Why a chain breaks: what the entries of others do to a life that waits for an outcome.
use Rattle.std.specs.Prelude.{◌≡◌, ◌≢◌, ◌<◌, ℕ, Bool, true, false, if◌then◌else◌, List, [], ◌∷◌, ◌++◌, length, Option, Some, None, Ok, Err}
use Rattle.std.specs.Prelude.{nat_eq}
use Rattle.server_life.specs.declared.life.Phase.{Phase}
use Rattle.server_life.specs.declared.life.Phase.TheVariants.{Adopting, Spawning, Routing, Unrouting, Stopping}
use Rattle.server_life.specs.declared.life.Life.{Life}
use Rattle.server_life.specs.declared.life.LifeEvent.{LifeEvent}
use Rattle.server_life.specs.declared.life.LifeEvent.TheVariants.{AskStop}
use Rattle.server_life.specs.declared.life.LifeRefusal.{LifeRefusal}
use Rattle.server_life.specs.declared.life.Todo.{Todo}
use Rattle.server_life.specs.declared.life.Todo.TheVariants.{Nothing, Start, AddRoute, DeleteRoute, StopProgram, Poll}
use Rattle.desk.specs.OwnEntries.{StandIn, Owns}
use Rattle.server_work.specs.declared.work.Work.{Work}
use Rattle.server_work.specs.LifeSteps.{Lives, step_at, left_of, IsSet}
use Rattle.server_work.specs.Outcomes.{todo_of}
use Rattle.server_work.specs.Chains.{At, Chain, Broke}

-- an entry of the history, as far as lives go: none, a start, or an event of a generation
pub data LifeEntry : Type 0 where
  plain : LifeEntry
  begun : ℕ → LifeEntry
  event : ℕ → LifeEvent → LifeEntry

-- a legal entry, and the lives after it
abbrev pub Moves : Lives → LifeEntry → Lives → Type 0
Moves lives plain after = (k : ℕ) → after k ≡ lives k
Moves lives (begun h) after = (lives h ≡ None) × (life : Life) × IsSet h (Some life) lives after
Moves lives (event h e) after = (made : Life) × (owes : Todo) × (step_at lives h e ≡ Ok (made, owes)) × IsSet h (left_of made) lives after

-- a legal history, and the lives after it
abbrev pub Path : Lives → List LifeEntry → Lives → Type 0
Path lives [] after = (k : ℕ) → after k ≡ lives k
Path lives (x ∷ xs) after = (mid : Lives) × Moves lives x mid × Path mid xs after

-- The event is a wish to stop
abbrev pub is_ask_stop : LifeEvent → Bool
is_ask_stop AskStop = true
is_ask_stop e = false

-- an event of the generation's life, other than a wish to stop
abbrev pub is_outcome_of : ℕ → LifeEntry → Bool
is_outcome_of g plain = false
is_outcome_of g (begun h) = false
is_outcome_of g (event h e) = if nat_eq g h then (if is_ask_stop e then false else true) else false

-- the generation whose chain waits in this phase for the outcome of what is owed
abbrev pub waits : Phase → Todo → Option ℕ
waits (Adopting h) Poll = Some h
waits (Spawning h) Start = Some h
waits (Routing h) AddRoute = Some h
waits (Unrouting h) DeleteRoute = Some h
waits (Stopping h) StopProgram = Some h
waits phase todo = None

-- The life of the generation g waits for the outcome of what is owed
pub record Waits (lives : Lives) (g : ℕ) (owed : Todo) : Type 0 where
  pub life : Life
  pub is : lives g ≡ Some life
  pub at : waits life.phase owed ≡ Some g

-- one of the entries is an event of the generation's life, other than a wish to stop
abbrev pub HasOutcome : ℕ → List LifeEntry → Type 0
HasOutcome g xs = (before : List LifeEntry) × (x : LifeEntry) × (after : List LifeEntry) × (xs ≡ before ++ x ∷ after)
    × (is_outcome_of g x ≡ true)

-- where an outcome that is waited for is refused, such an entry came in between
abbrev pub BrokenByOther : Type 0
BrokenByOther = (lives after : Lives) (xs : List LifeEntry) (g : ℕ) (o : LifeEvent) (error : LifeRefusal)
    → Waits lives g (todo_of o) → Path lives xs after → step_at after g o ≡ Err error → HasOutcome g xs

-- after an outcome that owes something, the life waits for the outcome of that
abbrev pub WaitsAfter : Type 0
WaitsAfter = (lives after : Lives) (g : ℕ) (o : LifeEvent) (made : Life) (owes : Todo) → todo_of o ≢ Nothing
    → step_at lives g o ≡ Ok (made, owes)
    → owes ≢ Nothing → IsSet g (left_of made) lives after → Waits after g owes

-- ---- chains of a pass

-- what the entries are, as far as lives go
abbrev pub AreEntries : {E : Type 0} → (E → LifeEntry → Type 0) → List E → List LifeEntry → Type 0
AreEntries is_entry [] [] = Unit {0}
AreEntries is_entry (x ∷ xs) (e ∷ es) = is_entry x e × AreEntries is_entry xs es
AreEntries is_entry xs es = ⊥

module _ {E A : Type 0} (reached : Option A → List E → Lives → Type 0) (is_entry : E → LifeEntry → Type 0) where
  -- the history after each place is a legal one
  abbrev pub Follows : Type 0
  Follows = (base : Option A) (h xs : List E) (lives after : Lives) → reached base h lives → reached base (h ++ xs) after
      → (es : List LifeEntry) × AreEntries is_entry xs es × Path lives es after

  -- the life of the generation waits there for the outcome of what is owed
  pub record WaitsAt (base : Option A) (h : List E) (g : ℕ) (owed : Todo) : Type 0 where
    pub lives : Lives
    pub at : reached base h lives
    pub waits : Waits lives g owed

  -- past the place that the pass had seen, and so past all its own entries, stands an event of the generation's life other than a wish to
  -- stop
  pub record OthersCame (g : ℕ) (seen later : List E) (mine : List (ℕ × E)) : Type 0 where
    pub since : List E
    pub later_is : later ≡ seen ++ since
    pub events : List LifeEntry
    pub are : AreEntries is_entry since events
    pub outcome : HasOutcome g events
    pub own : (n : ℕ) → Owns n mine → n < length seen

module _ {E A : Type 0} (reached : Option A → List E → Lives → Type 0) (notes : E → ℕ → LifeEvent → Type 0)
    (is_entry : E → LifeEntry → Type 0) where
  -- a chain that was waited for breaks only where another pass made such an entry after the last one of the chain
  abbrev pub BrokenByOthers : Type 0
  BrokenByOthers = (w : Work) (x y : At E A) (first : Todo) (k : Chain E) → StandIn x.pass.seen x.pass.mine
      → WaitsAt reached is_entry x.pass.base x.pass.seen w.generation first → (b : Broke reached notes w x first k y)
      → OthersCame reached is_entry w.generation b.seen.entries y.pass.seen y.pass.mine

  -- where the pass is alone no chain that was waited for breaks
  abbrev pub AloneUnbroken : Type 0
  AloneUnbroken = (w : Work) (x y : At E A) (first : Todo) (k : Chain E) → x.pass.alone ≡ true
      → WaitsAt reached is_entry x.pass.base x.pass.seen w.generation first → Broke reached notes w x first k y → ⊥
