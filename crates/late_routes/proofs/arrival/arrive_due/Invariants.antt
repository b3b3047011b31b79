use Rattle.std.proofs.Common.{◌≤◌, length}
use Rattle.late_routes.specs.Arrivals.{Arrived}
use Rattle.late_routes.specs.Plans.{is_due}
use Rattle.late_routes.proofs.arrival.arrive_due.Given as goal

abbrev pub invariant-due : goal.invariant-due
invariant-due l =
    Arrived (is_due l.number) 0 l.initial.table l.initial.messages.items l.table l.messages.items × (length l.messages.items ≤ length l.initial.messages.items)

abbrev pub decreases-due : goal.decreases-due
decreases-due l = length l.messages.items
