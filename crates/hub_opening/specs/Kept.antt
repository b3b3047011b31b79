-- What a hub takes over from a keeper: the tables of its rows, with a generation for each lease, and each leased server to be adopted.
use Rattle.std.specs.Prelude.{◌≡◌, ℕ, ◌+◌, ◌<◌, ◌≤◌, ◌^◌, ◌⊎◌, Bool, not, List, [], length, map, fold, slice_get, codes, bytes_eq, Option}
use Rattle.std.specs.Prelude.{Some, None, option_map, Result, Ok, Err, ⊤}
use Rattle.std.specs.List.{list_any, find}
use Rattle.std.specs.FinMap.{empty, get, insert, values}
use Rattle.scope_names.specs.Refusals.{IsAnswer}
use Rattle.scope_names.specs.declared.custom.CustomRow.{CustomRow}
use Rattle.hub_rows.specs.declared.limits.Limits.{Limits}
use Rattle.hub_rows.specs.declared.records.Lease.{Lease}
use Rattle.hub_rows.specs.declared.rows.Row.{Row}
use Rattle.hub_tables.specs.State.{State}
use Rattle.keeper.specs.declared.keeper.Row.{Row as KeptRow}
use Rattle.keeper.specs.Rows.{Rows, Lists}
use Rattle.kept_rows.specs.Reading.{AreReadAs, IsFirstUnread}
use Rattle.record_texts.specs.declared.record.RowError.{RowError}
use Rattle.record_texts.specs.declared.record.RowError.TheVariants.{BadRow as Unread, Memory as Wanting}
use Rattle.row_rules.specs.Across.{kept_tables, sound_rows}
use Rattle.hub_lives.specs.Lives.{Lives, adopted_by}
use Rattle.hub_machine.specs.State.{next_generation}
use Rattle.hub_opening.specs.declared.open_error.OpenError.{OpenError}
use Rattle.hub_opening.specs.declared.open_error.OpenError.TheVariants.{KeeperFault, BadRow, LostTarget, Full, Memory}

-- ---- custom scopes

-- the declared ones make a table of scopes
abbrev pub MakeTable : List CustomRow → Type 0
MakeTable rows = IsAnswer rows (Ok rows)

-- ---- the tables of kept rows

-- each of them is read by itself, and none breaks a rule across rows
pub record AreTablesOf (limits : Limits) (scopes : List CustomRow) (kept : List KeptRow) (t : State) : Type 0 where
  pub rows : List Row
  pub read : AreReadAs kept rows
  pub tables : t ≡ kept_tables limits scopes rows
  pub sound : sound_rows (kept_tables limits scopes rows) rows ≡ length rows

-- all are read, and the first that breaks a rule has this kind and key
pub record IsFirstBroken (limits : Limits) (scopes : List CustomRow) (kept : List KeptRow) (number : ℕ) (name : List ℕ) : Type 0 where
  pub rows : List Row
  pub bad : KeptRow
  pub read : AreReadAs kept rows
  pub there : slice_get kept (sound_rows (kept_tables limits scopes rows) rows) ≡ Some bad
  pub kind : bad.kind ≡ number
  pub key : bad.key ≡ name

-- the first bad row: first each by itself, then by the rules across rows
abbrev pub IsFirstBad : Limits → List CustomRow → List KeptRow → ℕ → List ℕ → Type 0
IsFirstBad limits scopes kept number name = IsFirstUnread kept number name ⊎ IsFirstBroken limits scopes kept number name

-- The tables of these kept rows, or why there are none: the first bad row, or want of memory
abbrev pub AreTables : Limits → List CustomRow → List KeptRow → Result State OpenError → Type 0
AreTables limits scopes kept (Ok t) = AreTablesOf limits scopes kept t
AreTables limits scopes kept (Err KeeperFault) = ⊥
AreTables limits scopes kept (Err (BadRow number name)) = IsFirstBad limits scopes kept number name
AreTables limits scopes kept (Err (LostTarget target)) = ⊥
AreTables limits scopes kept (Err (Full number limit)) = ⊥
AreTables limits scopes kept (Err Memory) = ⊤

-- these are the tables of what a keeper listed, which are all its rows, if it tells them
pub record AreLoaded (limits : Limits) (scopes : List CustomRow) (Tells : Type 0) (has : Rows) (t : State) : Type 0 where
  pub kept : List KeptRow
  pub listed : Tells → Lists has kept
  pub tables : AreTablesOf limits scopes kept t

-- the first bad row of what it listed has this kind and key
pub record IsRefusedRow (limits : Limits) (scopes : List CustomRow) (Tells : Type 0) (has : Rows) (number : ℕ) (name : List ℕ) : Type 0
  where
    pub kept : List KeptRow
    pub listed : Tells → Lists has kept
    pub bad : IsFirstBad limits scopes kept number name

-- a row's error, said as that of an opening
abbrev pub IsSaid : RowError → OpenError → Type 0
IsSaid (Unread number name) e = e ≡ BadRow number name
IsSaid Wanting e = e ≡ Memory

-- the error has the kind and the key of the row, unless memory was wanting
abbrev pub IsBadRow : KeptRow → OpenError → Type 0
IsBadRow kept KeeperFault = ⊥
IsBadRow kept (BadRow number name) = (kept.kind ≡ number) × (kept.key ≡ name)
IsBadRow kept (LostTarget target) = ⊥
IsBadRow kept (Full number limit) = ⊥
IsBadRow kept Memory = ⊤

-- ---- generations

-- the lease has the next generation
abbrev pub with_generation : Lease → State → State
with_generation l t = record t {
  leases = insert t.leases l.target (record l { generation = Some (next_generation t) });
  nexts = insert t.nexts (codes "generation") (record { name = codes "generation"; next = next_generation t + 1 });
}

-- where it has none
abbrev pub where_none : Lease → Option ℕ → State → State
where_none l None t = with_generation l t
where_none l (Some g) t = t

-- The tables with a generation for this lease, if there is one and it has none
abbrev pub of_lease : Option Lease → State → State
of_lease None t = t
of_lease (Some l) t = where_none l l.generation t

-- The tables with a generation for the lease of this target, where it has none
abbrev pub generation_given : State → List ℕ → State
generation_given t target = of_lease (get t.leases target) t

-- the targets of the leases, in order
abbrev pub targets_of : State → List (List ℕ)
targets_of t = map (λ (l : Lease). l.target) (values t.leases)

-- each lease has a generation: those that are new are given in the order of targets
abbrev pub with_generations : State → State
with_generations t = fold generation_given t (targets_of t)

-- ---- the live servers

-- The live servers with this lease, to be adopted, if it has a generation
abbrev pub adopted_at : Lease → Option ℕ → Lives → Lives
adopted_at l None lives = lives
adopted_at l (Some g) lives = insert lives g (adopted_by l.server l.target g)

-- The live servers with this lease, to be adopted
abbrev pub adopted : Lives → Lease → Lives
adopted lives l = adopted_at l l.generation lives

-- each leased server is to be adopted, and no stop is asked
abbrev pub lives_in : State → Lives
lives_in t = fold adopted empty (values t.leases)

-- ---- a lease without its target

-- The target is in the pool
abbrev pub is_in_pool : (pool : List (List ℕ)) → List ℕ → Bool
is_in_pool pool target = list_any (λ other. bytes_eq other target) pool

-- the first lease, in the order of targets, whose target isn't in the pool
abbrev pub first_lost : (pool : List (List ℕ)) → State → Option Lease
first_lost pool t = find (λ l. not (is_in_pool pool l.target)) (values t.leases)

-- The target of that lease, if there is one
abbrev pub lost_target : (pool : List (List ℕ)) → State → Option (List ℕ)
lost_target pool t = option_map (λ (l : Lease). l.target) (first_lost pool t)

-- ---- what is true of the leases of such tables

-- What is true of the leases of such tables: each stands under its own target, no two are of one server or of one generation, and the
-- generations are below the next one, which isn't too great
pub record AreLeasable (t : State) : Type 0 where
  pub own : (a : List ℕ) (l : Lease) → get t.leases a ≡ Some l → l.target ≡ a
  pub servers : (a b : List ℕ) (l m : Lease) → get t.leases a ≡ Some l → get t.leases b ≡ Some m → l.server ≡ m.server → a ≡ b
  pub generations : (a b : List ℕ) (l m : Lease) (g : ℕ) → get t.leases a ≡ Some l → get t.leases b ≡ Some m
      → l.generation ≡ Some g → m.generation ≡ Some g → a ≡ b
  pub few : next_generation t ≤ 2 ^ 61
  pub above : 1 ≤ next_generation t
  pub below : (a : List ℕ) (l : Lease) (g : ℕ) → get t.leases a ≡ Some l → l.generation ≡ Some g → g < next_generation t
