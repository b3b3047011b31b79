-- The book as one whose history tells the lives of servers.
use Rattle.std.specs.Prelude.{◌≡◌, ℕ, List, Option, Some, None, option_map}
use Rattle.std.specs.FinMap.{get}
use Rattle.server_life.specs.declared.life.LifeEvent.{LifeEvent}
use Rattle.server_work.specs.LifeSteps as work
use Rattle.server_work.specs.declared.book.Lived.{Lived as ChainLived}
use Rattle.server_work.specs.declared.work.Kept as chain
use Rattle.server_work.specs.declared.work.Kept.TheVariants as Chain
use Rattle.hub_machine.specs.declared.step.Kept.{Kept as EndKept}
use Rattle.hub_machine.specs.declared.step.Kept.TheVariants as K
use Rattle.hub_machine.specs.declared.step.Step.{Step}
use Rattle.hub_lives.specs.Lives.{Lives}
use Rattle.hub_lives.specs.declared.lives.Leased.{Leased}
use Rattle.hub_machine.specs.State.{Hub}
use Rattle.hub_machine.specs.declared.change.Change.TheVariants.{Life as Lived}
use Rattle.hub_core.specs.Visits.{Entry, Reached}
use Rattle.hub_core.specs.declared.start.Start.{Start}

-- the life of each generation that is live
abbrev pub lives_of : Lives → work.Lives
lives_of lives = λ g. option_map (λ (l : Leased). l.life) (get lives g)

-- from the start of a book these entries lead to a state with these lives
abbrev pub LeadsToLives : Option Start → List Entry → work.Lives → Type 0
LeadsToLives None entries lives = ⊥
LeadsToLives (Some start) entries lives = (state : Hub) × Reached start entries state × (lives ≡ lives_of state.lives)

-- the entry is this event in the life of this generation
abbrev pub Notes : Entry → ℕ → LifeEvent → Type 0
Notes c g event = c ≡ Lived g event

-- whether an end was kept, in the words of a chain
abbrev pub kept_of : EndKept → chain.Kept
kept_of K.NotAsked = Chain.NotAsked
kept_of K.Kept = Chain.Kept
kept_of K.KeeperFault = Chain.KeeperFault
kept_of K.Memory = Chain.Memory

-- A step of a life, in the words of a chain
abbrev pub lived_of : Step → ChainLived
lived_of made = record { todo = made.todo; kept = kept_of made.kept; length = made.length }
