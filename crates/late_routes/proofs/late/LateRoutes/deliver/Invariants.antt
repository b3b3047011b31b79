use Rattle.std.proofs.Common.{◌≡◌, ◌+◌, length}
use Rattle.late_routes.specs.Arrivals.{Arrived, any}
use Rattle.late_routes.proofs.late.LateRoutes.deliver.Given as goal

abbrev pub invariant-messages : goal.invariant-messages
invariant-messages l =
    Arrived any l.now l.initial.self.table l.initial.self.outstanding.items l.self.table l.self.outstanding.items
    × (l.count + length l.self.outstanding.items ≡ length l.initial.self.outstanding.items)
    × (l.self.plans.items ≡ l.initial.self.plans.items)
    × (l.self.made ≡ l.initial.self.made)
    × (l.self.log ≡ l.initial.self.log)

abbrev pub decreases-messages : goal.decreases-messages
decreases-messages l = length l.self.outstanding.items
