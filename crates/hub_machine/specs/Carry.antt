-- How a change is carried out: its puts before the commit, and its removals after it.
use Rattle.std.specs.Prelude.{◌≡◌, ℕ, Bool, true, false, List, [], ◌∷◌, ◌++◌, ◌+◌, codes, Some, None, Result, Ok, Err, IsOk}
use Rattle.std.specs.List.{list_any}
use Rattle.std.specs.FinMap.{insert}
use Rattle.hub_kit.specs.declared.names.ServerKey.{ServerKey}
use Rattle.scope_filters.specs.Contexts.{same}
use Rattle.server_life.specs.declared.life.LifeEvent.{LifeEvent}
use Rattle.server_life.specs.declared.life.LifeEvent.TheVariants.{AskStop}
use Rattle.hub_rows.specs.RowKeys.{key_in}
use Rattle.hub_rows.specs.declared.changes.RowChange.{RowChange}
use Rattle.hub_rows.specs.declared.rows.RowKey.{RowKey}
use Rattle.hub_tables.specs.Changes.{FitAll}
use Rattle.hub_tables.specs.State.{State}
use Rattle.keeper.specs.declared.keeper.Item.{Item}
use Rattle.keeper.specs.Rows.{Rows as KeptRows, AreSame, after_items}
use Rattle.hub_machine.specs.State.{Hub, lease_of, free_target, next_generation}
use Rattle.hub_machine.specs.Apply.{apply, change_done, end_rows, rows_of, step_at}
use Rattle.hub_machine.specs.Batches.{batch_of}
use Rattle.hub_lives.specs.LiveServers.{LiveServers, begins}
use Rattle.hub_machine.specs.declared.change.Change.{Change}
use Rattle.hub_lives.specs.declared.lives.Leased.{Leased}
use Rattle.hub_machine.specs.declared.step.Kept.{Kept as EndKept}
use Rattle.hub_machine.specs.declared.change.Change.TheVariants.{Rows, Begin, Life as Lived}

-- ---- which changes may be carried out

-- a row of the live servers: a lease, or the next generation
abbrev pub is_of_lives : RowKey → Bool
is_of_lives (RowKey.Lease target) = true
is_of_lives (RowKey.Next name) = same name (codes "generation")
is_of_lives _ = false

-- The change is of a row of the live servers
abbrev pub touches_lives : RowChange → Bool
touches_lives r = is_of_lives (key_in r)

-- each put fits where the puts before it left the tables, and the rows are none of the live servers
pub record FitRows (s : Hub) (rows : List RowChange) : Type 0 where
  pub puts : FitAll rows s.tables
  pub apart : list_any touches_lives rows ≡ false

-- a server at rest starts with the next generation; the rows lease it the free target, and raise the next generation
pub record FitsBegin (s : Hub) (g : ℕ) (server : ServerKey) (rows : List RowChange) (target : List ℕ) : Type 0 where
  pub puts : FitAll rows s.tables
  pub generation : g ≡ next_generation s.tables
  pub rests : lease_of s.lives server ≡ None
  pub free : free_target s.pool s.lives ≡ Some target
  pub leased : (change_done rows s.tables).leases ≡ insert s.tables.leases target
      (record { target = target; server = server; generation = Some g })
  pub raised : next_generation (change_done rows s.tables) ≡ g + 1

-- a stop is asked of a live generation that may be asked
pub record FitsStop (s : Hub) (g : ℕ) (event : LifeEvent) : Type 0 where
  pub asks : event ≡ AskStop
  pub may : IsOk (step_at s.lives g event)

-- The change may be carried out in the state s: its rows fit, or its start, or its wish for a stop
abbrev pub FitsIn : Hub → Change → Type 0
FitsIn s (Rows rows) = FitRows s rows
FitsIn s (Begin g server rows) = (target : List ℕ) × FitsBegin s g server rows target
FitsIn s (Lived g event) = FitsStop s g event

-- A commit of the keeper goes with the change
abbrev pub has_commit : Change → Bool
has_commit (Rows rows) = true
has_commit (Begin g server rows) = true
has_commit (Lived g event) = false

-- ---- the tables and the keeper: all is done (`Ok true`), or as before

-- The tables, from t to t': the change of these rows is done (`Ok true`), or all is as before
abbrev pub RowsDone : {E : Type 0} → List RowChange → Result Bool E → (t t' : State) → Type 0
RowsDone rows (Ok true) t t' = t' ≡ change_done rows t
RowsDone rows (Ok false) t t' = t' ≡ t
RowsDone rows (Err e) t t' = t' ≡ t

-- The keeper's rows, from `rows` to `rows'`: these items are done (`Ok true`), or all is as before
abbrev pub RowsKept : {E : Type 0} → List Item → Result Bool E → (rows rows' : KeptRows) → Type 0
RowsKept items (Ok true) rows rows' = AreSame rows' (after_items items rows)
RowsKept items (Ok false) rows rows' = AreSame rows' rows
RowsKept items (Err e) rows rows' = AreSame rows' rows

-- The live servers, from `live` to `live'`: the next generation is leased to the server, and is being started (`Ok true`), or all is as
-- before
abbrev pub BeginDone : {E : Type 0} → ServerKey → Result Bool E → (live live' : LiveServers) → Type 0
BeginDone server (Ok true) live live' = live' ≡ begins server live
BeginDone server (Ok false) live live' = live' ≡ live
BeginDone server (Err e) live live' = live' ≡ live

-- The tables, from t to t': the rows of the end of the lease l are done where it was kept, or all is as before
abbrev pub EndDone : Leased → EndKept → (t t' : State) → Type 0
EndDone l EndKept.Kept t t' = t' ≡ change_done (end_rows t l) t
EndDone l _ t t' = t' ≡ t

-- ---- the whole

-- the keeper's rows: those that the change puts and removes are put and removed, or all are as before
abbrev pub Kept : {E : Type 0} → Change → Result Bool E → (rows rows' : KeptRows) → Type 0
Kept c done rows rows' = RowsKept (batch_of (rows_of c)) done rows rows'

-- The state and the history: the change is kept and noted (`Ok true`), or all is as before
abbrev pub Entered : {E : Type 0} → Change → Result Bool E → (s s' : Hub) (told told' : List Change) → Type 0
Entered c (Ok true) s s' told told' = (s' ≡ apply c s) × (told' ≡ told ++ c ∷ [])
Entered c (Ok false) s s' told told' = (s' ≡ s) × (told' ≡ told)
Entered c (Err e) s s' told told' = (s' ≡ s) × (told' ≡ told)
