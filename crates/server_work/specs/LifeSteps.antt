-- The lives of servers by their generations, and how an event is taken there.
use Rattle.std.specs.Prelude.{◌≡◌, ℕ, Option, Some, None, Result, Err, nat_eq, if◌then◌else◌}
use Rattle.server_life.specs.declared.life.Phase.{Phase}
use Rattle.server_life.specs.declared.life.Phase.TheVariants.{Stopped}
use Rattle.server_life.specs.declared.life.Life.{Life}
use Rattle.server_life.specs.declared.life.LifeEvent.{LifeEvent}
use Rattle.server_life.specs.declared.life.LifeRefusal.{LifeRefusal}
use Rattle.server_life.specs.declared.life.LifeRefusal.TheVariants.{OldGeneration}
use Rattle.server_life.specs.declared.life.Todo.{Todo}
use Rattle.server_life.specs.LifeTable.{life_after}

-- the life of each generation that has one
abbrev pub Lives : Type 0
Lives = ℕ → Option Life

-- What the event makes of the life of the generation g, and what it owes then; a generation without a life refuses it
abbrev pub step_of : Option Life → ℕ → LifeEvent → Result (Life × Todo) LifeRefusal
step_of None g event = Err (OldGeneration g)
step_of (Some life) g event = life_after life g event

-- what the event makes of the life of its generation; a generation that isn't live takes none
abbrev pub step_at : Lives → ℕ → LifeEvent → Result (Life × Todo) LifeRefusal
step_at lives g event = step_of (lives g) g event

-- The life, unless it has ended in this phase
abbrev pub left_in : Phase → Life → Option Life
left_in Stopped life = None
left_in phase life = Some life

-- a life that has ended is no more
abbrev pub left_of : Life → Option Life
left_of life = left_in life.phase life

-- the generation has this life afterwards, and each other one has what it had
abbrev pub IsSet : ℕ → Option Life → Lives → Lives → Type 0
IsSet g life before after = (k : ℕ) → after k ≡ (if nat_eq k g then life else before k)
