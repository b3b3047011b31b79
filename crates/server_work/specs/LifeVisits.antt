-- What an outcome leaves of a book.
use Rattle.std.specs.Prelude.{◌≡◌, ◌≤◌, ℕ, List, [], ◌∷◌, ◌++◌, length, Result, Ok, Err}
use Rattle.server_life.specs.declared.life.Life.{Life}
use Rattle.server_life.specs.declared.life.LifeEvent.{LifeEvent}
use Rattle.server_life.specs.declared.life.LifeRefusal.{LifeRefusal}
use Rattle.server_work.specs.declared.book.Lived.{Lived}
use Rattle.server_work.specs.LifeSteps.{Lives, step_at, left_of, IsSet}
use Rattle.server_work.specs.Outcomes.{noted, is_end, KeptAs}

-- `notes e g event`: the entry e is this event of the life of the generation g
module _ {E : Type 0} (notes : E → ℕ → LifeEvent → Type 0) where
  -- one entry more, which notes the outcome that the life took; it is then what the life table makes of what is noted
  pub record Stepped (h h' : List E) (lives lives' : Lives) (faults faults' : ℕ) (g : ℕ) (outcome : LifeEvent) (l : Lived) : Type 0 where
    pub entry : E
    pub taken : Life
    pub made : Life
    pub appends : h' ≡ h ++ entry ∷ []
    pub notes_it : notes entry g (noted outcome l.kept)
    pub takes : step_at lives g outcome ≡ Ok (taken, l.todo)
    pub row : step_at lives g (noted outcome l.kept) ≡ Ok (made, l.todo)
    pub left : IsSet g (left_of made) lives lives'
    pub kept : KeptAs (is_end outcome) faults faults' l.kept
    pub longer : l.length ≡ length h'

  -- where the life doesn't take the outcome all is as before
  abbrev pub LifeVisited : (h h' : List E) → (lives lives' : Lives) → (faults faults' : ℕ) → ℕ → LifeEvent → Result Lived LifeRefusal
      → Type 0
  LifeVisited h h' lives lives' faults faults' g outcome (Ok l) = Stepped h h' lives lives' faults faults' g outcome l
  LifeVisited h h' lives lives' faults faults' g outcome (Err e) = (h' ≡ h) × (faults' ≡ faults) × (step_at lives g outcome ≡ Err e)
