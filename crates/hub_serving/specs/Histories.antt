-- What the history has of a hub that served.
use Rattle.std.specs.Prelude.{◌≡◌, ℕ, List, [], Option}
use Rattle.atomic_table.specs.Seated.{TableId}
use Rattle.desk.specs.OwnEntries.{placed}
use Rattle.desk.specs.Passes.{opening}
use Rattle.keeper.specs.Rows.{Rows}
use Rattle.server_work.specs.Gains.{sum_of}
use Rattle.hub_core.specs.declared.start.Start.{Start}
use Rattle.hub_serve.specs.Sessions.{with_gains}
use Rattle.hub_serving.specs.Hall.{Hall, view_in}
use Rattle.hub_serving.specs.Ends.{End}
use Rattle.hub_serving.specs.Served.{EndsBy}
use Rattle.hub_serving.specs.declared.plan.Plan.{Plan}

-- over a book that was opened: what taking the servers back gained, and what the connections gained, each entry at its place, and no other
abbrev pub HistoriesAreGained : {K : Type 0} → (K → Type 0) → (K → Rows) → (K → ℕ) → (Option (List ℕ) → Option (List ℕ) → Type 0) → Type 0
HistoriesAreGained {K} Tells rows faults Sides =
    (table : TableId) (start : Start) (counted : ℕ) (plan : Plan) (h h' : Hall) (k' : K) (end : End)
    (by : EndsBy Tells rows faults Sides start (view_in (opening table start [] counted) h) plan h h' k' end)
    → placed 0 by.ends.ends.entries ≡ with_gains (sum_of by.takes.gains).entries by.ends.ends.workers
