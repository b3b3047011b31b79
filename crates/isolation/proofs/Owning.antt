-- Rows stay under their own keys.
use Rattle.std.proofs.Common.{ℕ, List, [], ◌∷◌, Option}
use Rattle.std.specs.Prelude.{Some, None, Ok, Err}
use Rattle.std.specs.FinMap.{get}
use Rattle.server_life.specs.LifeTable.{life_after}
use Rattle.server_life.specs.declared.life.Life.{Life}
use Rattle.server_life.specs.declared.life.LifeEvent.{LifeEvent}
use Rattle.server_life.specs.declared.life.Phase.{Phase}
use Rattle.server_life.specs.declared.life.Phase.TheVariants.{Stopped}
use Rattle.hub_rows.specs.declared.changes.RowChange.{RowChange}
use Rattle.hub_tables.specs.Changes.{rows_done, puts_of, removals_of}
use Rattle.hub_tables.specs.Own.{AreOwn}
use Rattle.hub_tables.specs.State.{State}
use Rattle.hub_tables.proofs.RowsAt.{rows_own}
use Rattle.hub_lives.specs.Lives.{LifeStep}
use Rattle.hub_lives.specs.declared.lives.Leased.{Leased}
use Rattle.hub_machine.specs.Apply.{apply, change_done, end_rows, moved, stepped, of_lease}
use Rattle.hub_machine.specs.State.{Hub}
use Rattle.hub_machine.specs.declared.change.Change.{Change}
use Rattle.hub_machine.specs.declared.change.Change.TheVariants.{Rows, Begin, Life as Lived}
use Rattle.hub_core.specs.History.{state_after}

done_own : (rows : List RowChange) (t : State) → AreOwn t → AreOwn (change_done rows t)
done_own rows t own = rows_own (removals_of rows) (rows_done (puts_of rows) t) (rows_own (puts_of rows) t own)

moved_own : (g : ℕ) (l : Leased) (life : Life) (phase : Phase) (s : Hub) → AreOwn s.tables → AreOwn (moved g l life phase s).tables
moved_own g l life Stopped s own = done_own (end_rows s.tables l) s.tables own
moved_own g l life phase s own = own

step_own : (g : ℕ) (l : Leased) (step : LifeStep) (s : Hub) → AreOwn s.tables → AreOwn (stepped g l step s).tables
step_own g l (Err e) s own = own
step_own g l (Ok next) s own = moved_own g l next.0 next.0.phase s own

lease_own : (g : ℕ) (event : LifeEvent) (l : Option Leased) (s : Hub) → AreOwn s.tables → AreOwn (of_lease g event l s).tables
lease_own g event None s own = own
lease_own g event (Some l) s own = step_own g l (life_after l.life g event) s own

change_own : (c : Change) (s : Hub) → AreOwn s.tables → AreOwn (apply c s).tables
change_own (Rows rows) s own = done_own rows s.tables own
change_own (Begin g server rows) s own = done_own rows s.tables own
change_own (Lived g event) s own = lease_own g event (get s.lives g) s own

pub stay_own : (h : List Change) (s : Hub) → AreOwn s.tables → AreOwn (state_after s h).tables
stay_own [] s own = own
stay_own (c ∷ h) s own = stay_own h (apply c s) (change_own c s own)
