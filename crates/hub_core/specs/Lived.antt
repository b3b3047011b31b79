-- What a step of a server's life leaves of a book.
use Rattle.std.specs.Prelude.{◌≡◌, ℕ, false, List, [], ◌∷◌, ◌++◌, length, Result, Ok, Err, OnErr}
use Rattle.server_life.specs.declared.life.LifeEvent.{LifeEvent}
use Rattle.server_life.specs.declared.life.LifeRefusal.{LifeRefusal}
use Rattle.hub_machine.specs.State.{Hub}
use Rattle.hub_machine.specs.Apply.{step_at}
use Rattle.hub_machine.specs.Steps.{Steps, KeptAs, Owes, entry_of, is_end}
use Rattle.hub_machine.specs.declared.step.Step.{Step}
use Rattle.hub_core.specs.Visits.{Standing, Entry, Reached}
use Rattle.hub_core.specs.declared.start.Start.{Start}

-- the outcome is taken and noted, or refused, as the life table says of the book's state; the kept rights stay as they are
pub record LivesOn (b b' : Standing) (g : ℕ) (event : LifeEvent) (came : Result Step LifeRefusal) : Type 0 where
  pub steps : Steps g event came b.hub b'.hub b.told b'.told b.faults b'.faults
  pub stamped : b'.stamp ≡ b.stamp
  pub rights : b'.rights ≡ b.rights
  -- the keeper is asked to keep an end alone
  pub unasked : is_end event ≡ false → b'.faults ≡ b.faults
  pub refused : OnErr came (b'.faults ≡ b.faults)

-- ---- the same at a place of the history

-- the life of the generation takes the outcome in the state that the entries before it left, and one entry notes it
pub record TakenAt (start : Start) (before after : List Entry) (faults faults' : ℕ) (g : ℕ) (event : LifeEvent) (made : Step) : Type 0 where
  pub state : Hub
  pub reached : Reached start before state
  pub owes : Owes (step_at state.lives g event) made.todo
  pub kept : KeptAs (is_end event) faults faults' made.kept
  pub noted : after ≡ before ++ entry_of g event made.kept ∷ []
  pub length : made.length ≡ length after

-- the outcome is refused in that state, and all is as before
pub record RefusedAt (start : Start) (before after : List Entry) (faults faults' : ℕ) (g : ℕ) (event : LifeEvent) (e : LifeRefusal) : Type 0
  where
    pub state : Hub
    pub reached : Reached start before state
    pub refused : step_at state.lives g event ≡ Err e
    pub noted : after ≡ before
    pub unasked : faults' ≡ faults

-- What a visit for this outcome of the generation g came to, where it found the entries `before` and the keeper's count `faults`, and left
-- those behind them: it was taken, or refused
abbrev pub LivedAt : Start → (before after : List Entry) (faults faults' : ℕ) → ℕ → LifeEvent → Result Step LifeRefusal → Type 0
LivedAt start before after faults faults' g event (Ok made) = TakenAt start before after faults faults' g event made
LivedAt start before after faults faults' g event (Err e) = RefusedAt start before after faults faults' g event e
