-- What is done over an opened book: running servers are taken back, and one connection is served.
use Rattle.std.specs.Prelude.{◌≡◌, ◌⊎◌, ℕ, List, [], Some, Result, Ok, Err}
use Rattle.atomic_table.specs.Seated.{TableId}
use Rattle.desk.specs.Passes.{PassState, opening}
use Rattle.http_wire.specs.declared.error.SessionFault.{SessionFault}
use Rattle.keeper.specs.Rows.{Rows}
use Rattle.server_work.specs.declared.adopt.Adopted.{Adopted}
use Rattle.hub_machine.specs.KeptRows.{Keeps}
use Rattle.hub_machine.specs.State.{Hub}
use Rattle.hub_core.specs.Visits.{Entry, Reached}
use Rattle.hub_core.specs.declared.start.Start.{Start}
use Rattle.hub_run.specs.Connections.{ConnectionEnds, Known}
use Rattle.hub_run.specs.Turns.{View}
use Rattle.hub_run.specs.declared.served.Served.{Served}
use Rattle.hub_adopt.specs.Adopting.{TakesBack}
use Rattle.hub_main.specs.Told.{KitTold, Sides, IsQuiet}
use Rattle.hub_main.specs.Ends.{End}
use Rattle.hub_main.specs.declared.cause.Cause.TheVariants.{Words, Memory, NoFile, NoConfig, UnknownName, NoStore, NotOpened}

-- what a connection knows of this pass and of a kit whose clock gives this moment for ever
abbrev pub view_with : PassState Entry Start → (now : ℕ) → KitTold → View
view_with pass now kit =
    record { pass = pass; clock = Some (λ k. now); draws = kit.draws; spawner = kit.spawner; routes = kit.routes; faults = kit.faults }

-- what the devices tell in a view
abbrev pub kit_in : View → KitTold
kit_in y = record { draws = y.draws; spawner = y.spawner; routes = y.routes; faults = y.faults }

-- what a connection knows in this view, of these sides
abbrev pub known_at : View → Sides → Known
known_at x s = record { view = x; input = s.input; output = s.output }

-- ---- one pass

-- From the view x on the servers that were being adopted were taken back, and then one connection was served, from what the sides s tell to
-- what s' tell. It ended so, and y is what is known then
pub record IsServed (start : Start) (x y : View) (s s' : Sides) (end : Result Served SessionFault) : Type 0 where
  pub told : Adopted
  pub ready : View
  pub takes : TakesBack start x told ready
  pub connection : ConnectionEnds start (known_at ready s) (known_at y s') end
  pub kit : s'.kit ≡ kit_in y

-- Memory was wanting before the first call and the first byte, so that what is outside stays as it was; the pass has seen nothing more
pub record IsUnserved (x y : View) (s s' : Sides) : Type 0 where
  pub seen : y.pass.seen ≡ x.pass.seen
  pub quiet : IsQuiet s s'

-- How one pass over a book that began with `start` ended: it served its connection, or memory was wanting before. x is what it knew and s
-- what was outside before, y and s' are the same after it; no other cause comes so late
abbrev pub PassEnds : Start → View → View → Sides → Sides → End → Type 0
PassEnds start x y s s' (Ok end) = IsServed start x y s s' end
PassEnds start x y s s' (Err Memory) = IsUnserved x y s s'
PassEnds start x y s s' (Err Words) = ⊥
PassEnds start x y s s' (Err NoFile) = ⊥
PassEnds start x y s s' (Err (NoConfig bytes)) = ⊥
PassEnds start x y s s' (Err (UnknownName name)) = ⊥
PassEnds start x y s s' (Err NoStore) = ⊥
PassEnds start x y s s' (Err (NotOpened e)) = ⊥

-- ---- the store then

module _ {K : Type 0} (Tells : K → Type 0) (rows : K → Rows) (faults : K → ℕ) where
  -- Where the store k tells its rows, they are exactly those of the state that these entries lead to from `start`
  pub record HasKept (start : Start) (entries : List Entry) (k : K) : Type 0 where
    pub state : Hub
    pub reached : Reached start entries state
    pub kept : Tells k → Keeps (rows k) state.tables

  -- The command ended so by this pass, with a clock that gives the moment `now` for ever; the store k' has the rows of the entries that the
  -- pass saw last, where it tells them, and the count of faults that the pass saw last
  pub record SessionEndsBy (pass : PassState Entry Start) (start : Start) (now : ℕ) (s s' : Sides) (k' : K) (end : End) : Type 0 where
    pub last : View
    pub ends : PassEnds start (view_with pass now s.kit) last s s' end
    pub kept : HasKept start last.pass.seen k'
    pub count : faults k' ≡ last.pass.faults

  -- There was no memory for a pass: nothing was read, written or called, and the store has the rows of a history without entries, where it
  -- tells them
  pub record IsUntouched (start : Start) (s s' : Sides) (k' : K) : Type 0 where
    pub kept : HasKept start [] k'
    pub quiet : IsQuiet s s'

  -- How the command ended over a book that was opened with `start`, whose history is empty and whose keeper had counted so many faults: by
  -- its first pass, or there was no memory for that pass. s is what is outside before, s' after it, and k' the store then
  abbrev pub SessionEndsOver : Start → (counted now : ℕ) → Sides → Sides → K → End → Type 0
  SessionEndsOver start counted now s s' k' end =
      ((end ≡ Err Memory) × IsUntouched start s s' k')
      ⊎ ((table : TableId) × SessionEndsBy (opening table start [] counted) start now s s' k' end)
