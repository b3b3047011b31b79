-- What an outcome of a live generation makes of the hub, and which entry is noted.
use Rattle.std.specs.Prelude.{◌≡◌, ℕ, Bool, true, false, List, [], ◌∷◌, ◌++◌, Result, Ok, Err}
use Rattle.hub_devices.specs.Faults.{Rises}
use Rattle.server_life.specs.declared.life.LifeEvent.{LifeEvent}
use Rattle.server_life.specs.declared.life.LifeEvent.TheVariants.{Ended, SpawnFailed, EndUnkept}
use Rattle.server_life.specs.declared.life.LifeRefusal.{LifeRefusal}
use Rattle.server_life.specs.declared.life.Todo.{Todo}
use Rattle.hub_machine.specs.State.{Hub}
use Rattle.hub_lives.specs.Lives.{LifeStep}
use Rattle.hub_machine.specs.Apply.{apply, step_at}
use Rattle.hub_machine.specs.declared.change.Change.{Change}
use Rattle.hub_machine.specs.declared.change.Change.TheVariants.{Life as Lived}
use Rattle.hub_machine.specs.declared.step.Kept.{Kept as EndKept}
use Rattle.hub_machine.specs.declared.step.Kept.TheVariants.{NotAsked, Kept, KeeperFault, Memory}
use Rattle.hub_machine.specs.declared.step.Step.{Step}

-- The event is the end of a program: the program is gone, so the lease ends by a commit
abbrev pub is_end : LifeEvent → Bool
is_end Ended = true
is_end SpawnFailed = true
is_end _ = false

-- The event that is noted: the one that came, or in place of an end whose commit was refused `EndUnkept`
abbrev pub noted_event : LifeEvent → EndKept → LifeEvent
noted_event event NotAsked = event
noted_event event Kept = event
noted_event event KeeperFault = EndUnkept
noted_event event Memory = EndUnkept

-- The entry of an event of the generation g
abbrev pub entry_of : ℕ → LifeEvent → EndKept → Change
entry_of g event kept = Lived g (noted_event event kept)

-- whether the end was kept is asked of ends alone; the keeper failed only where its count of faults rose
abbrev pub KeptAs : (ends : Bool) → (faults faults' : ℕ) → EndKept → Type 0
KeptAs true faults faults' NotAsked = ⊥
KeptAs true faults faults' KeeperFault = Rises faults faults'
KeptAs true faults faults' _ = Unit {0}
KeptAs false faults faults' NotAsked = Unit {0}
KeptAs false faults faults' _ = ⊥

-- The step is taken, and then this is owed
abbrev pub Owes : LifeStep → Todo → Type 0
Owes (Ok next) todo = next.1 ≡ todo
Owes (Err e) todo = ⊥

-- the step is taken, and its entry noted
pub record Stepped (g : ℕ) (event : LifeEvent) (made : Step) (s s' : Hub) (told told' : List Change) (faults faults' : ℕ) : Type 0 where
  pub kept : KeptAs (is_end event) faults faults' made.kept
  pub owes : Owes (step_at s.lives g event) made.todo
  pub hub : s' ≡ apply (entry_of g event made.kept) s
  pub noted : told' ≡ told ++ entry_of g event made.kept ∷ []
  pub length : made.length ≡ s'.length

-- a step that isn't taken leaves all as before
pub record IsRefused (g : ℕ) (event : LifeEvent) (e : LifeRefusal) (s s' : Hub) (told told' : List Change) : Type 0 where
  pub refused : step_at s.lives g event ≡ Err e
  pub hub : s' ≡ s
  pub noted : told' ≡ told

-- What the event of the generation g came to, where the state was s, the history `told` and the keeper's count `faults`, with a prime
-- after: it was taken, or refused
abbrev pub Steps : ℕ → LifeEvent → Result Step LifeRefusal → (s s' : Hub) (told told' : List Change) (faults faults' : ℕ) → Type 0
Steps g event (Ok made) s s' told told' faults faults' = Stepped g event made s s' told told' faults faults'
Steps g event (Err e) s s' told told' faults faults' = IsRefused g event e s s' told told'
