-- Which declared rows make a table of scopes, and what is said of those that don't.
use Rattle.std.specs.Prelude.{◌≡◌, ℕ, ◌<◌, Bool, IsTrue, ◌||◌, nat_lt, nat_eq, List, length, take, Option, Some, None, Result, Ok, Err}
use Rattle.std.specs.Bool.{IsFalse}
use Rattle.std.specs.List.{list_any, slice_get}
use Rattle.std.specs.Option.{IsSomeAnd}
use Rattle.std.specs.Cmp.Lexicographic.{pointwise}
use Rattle.scope_names.specs.declared.action.Action.TheVariants.{Custom}
use Rattle.scope_names.specs.declared.custom.CustomRow.{CustomRow}
use Rattle.scope_names.specs.declared.table.TableError.{TableError}
use Rattle.scope_names.specs.declared.table.TableError.TheVariants.{Full, Repeated, Unknown, Cycle, Memory}
use Rattle.scope_names.specs.Coverage.{subscopes, IsReachedFrom}

-- more than 256 rows, or more than 64 subscopes in a row
abbrev pub is_full : List CustomRow → Bool
is_full rows = nat_lt 256 (length rows) || list_any (λ row. nat_lt 64 (length row.subscopes)) rows

-- some row has the name
abbrev pub is_declared : List ℕ → List CustomRow → Bool
is_declared name rows = list_any (λ row. pointwise nat_eq row.name name) rows

-- the name of row i stood before
abbrev pub Repeats : List CustomRow → ℕ → Type 0
Repeats rows i = IsSomeAnd (slice_get rows i) (λ row. IsTrue (is_declared row.name (take i rows)))

-- subscope k of row i is no row's name
abbrev pub IsUnknown : List CustomRow → ℕ → ℕ → Type 0
IsUnknown rows i k = IsSomeAnd (slice_get rows i) (λ row. IsSomeAnd (slice_get row.subscopes k) (λ name. IsFalse (is_declared name rows)))

abbrev pub HasUnknown : List CustomRow → ℕ → Type 0
HasUnknown rows i = (k : ℕ) × IsUnknown rows i k

-- row i is reached from itself by one or more steps
abbrev pub IsOnCycle : List CustomRow → ℕ → Type 0
IsOnCycle rows i = IsSomeAnd (slice_get rows i) (λ row. IsReachedFrom rows (subscopes rows (Custom row.name)) (Custom row.name))

abbrev pub IsNever : (ℕ → Type 0) → Type 0
IsNever P = (i : ℕ) → ¬ (P i)

-- i is the first for which P holds
abbrev pub IsFirst : (ℕ → Type 0) → ℕ → Type 0
IsFirst P i = P i × ((j : ℕ) → j < i → ¬ (P j))

-- the first for which P holds, if any
abbrev pub IsFirstOrNone : (ℕ → Type 0) → Option ℕ → Type 0
IsFirstOrNone P None = IsNever P
IsFirstOrNone P (Some i) = IsFirst P i

-- what is said of rows, in this order
abbrev pub IsAnswer : List CustomRow → Result (List CustomRow) TableError → Type 0
IsAnswer rows (Err Full) = IsTrue (is_full rows)
IsAnswer rows (Err (Repeated i)) = IsFalse (is_full rows) × IsFirst (Repeats rows) i
IsAnswer rows (Err (Unknown row index)) = IsFalse (is_full rows) × IsNever (Repeats rows) × IsFirst (HasUnknown rows) row
    × IsFirst (IsUnknown rows row) index
IsAnswer rows (Err (Cycle i)) = IsFalse (is_full rows) × IsNever (Repeats rows) × IsNever (HasUnknown rows) × IsFirst (IsOnCycle rows) i
IsAnswer rows (Err Memory) = Unit {0}
IsAnswer rows (Ok table) = IsFalse (is_full rows) × IsNever (Repeats rows) × IsNever (HasUnknown rows) × IsNever (IsOnCycle rows)
    × (table ≡ rows)
