-- A put without a limit wants memory at a new key alone.
use Rattle.std.proofs.Common.{◌≡◌, false, is_some, Option, Some, None, Result, Ok, Err, OnErr, refl, sym, subst}
use Rattle.std.specs.Prelude.{option_map}
use Rattle.std.specs.declared.cmp.Ordering.{Ordering}
use Rattle.std.specs.FinMap.{FinMap, get}
use Rattle.keyed_rows.specs.Puts.{IsFreeAnswer}
use Rattle.keyed_rows.specs.declared.PutError.{PutError}
use Rattle.keyed_rows.proofs.Puts.{free_memory}
use Rattle.hub_rows.specs.RowKeys.{key_of}
use Rattle.hub_rows.specs.declared.rows.Row.{Row}
use Rattle.hub_tables.specs.Changes.{row_at}
use Rattle.hub_tables.specs.State.{State}

mapped : {X Y : Type 0} (f : X → Y) (x : Option X) → is_some x ≡ false → is_some (option_map f x) ≡ false
mapped f None h = refl
mapped f (Some v) h = cc

pub new_alone : {K X Y : Type 0} {R : K → K → Ordering} (rows : FinMap R X) (key : K) (f : X → Y) (r : Result (Unit {0}) PutError) → IsFreeAnswer rows key r → OnErr r (is_some (option_map f (get rows key)) ≡ false)
new_alone rows key f (Ok v) h = tt
new_alone rows key f (Err e) h = mapped f (get rows key) (free_memory rows key e h)

-- the same of the row as it was handed in
pub new_row : (s : State) (r : Result (Unit {0}) PutError) {row known : Row} → row ≡ known → OnErr r (is_some (row_at s (key_of known)) ≡ false) → OnErr r (is_some (row_at s (key_of row)) ≡ false)
new_row s r is h = subst (λ w. OnErr r (is_some (row_at s (key_of w)) ≡ false)) (sym is) h
