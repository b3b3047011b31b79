-- One step of the way back.
use Rattle.std.specs.Prelude.{◌≡◌, List, [], ◌∷◌, ◌++◌}
use Rattle.hub_rows.specs.declared.changes.RowChange.{RowChange}
use Rattle.hub_tables.specs.Changes.{row_done}
use Rattle.hub_tables.specs.State.{State}
use Rattle.table_changes.specs.Staged.{IsFree}

-- the log has one step more, which undoes what was done
pub record OneMore (before after : State) (log log' : List RowChange) : Type 0 where
  pub step : RowChange
  pub logged : log' ≡ log ++ step ∷ []
  pub free : IsFree step after
  pub back : row_done step after ≡ before
