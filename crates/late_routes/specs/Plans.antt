-- When a message arrives.
use Rattle.std.specs.Prelude.{ℕ, ◌+◌, ◌==◌, nat_le, Bool, false, List, Option, Some, None, slice_get, if◌then◌else◌}
use Rattle.std.specs.Option.{unwrap_or}
use Rattle.late_routes.specs.declared.plan.LatePlan.{LatePlan}
use Rattle.late_routes.specs.declared.plan.LatePlan.TheVariants.{Done}
use Rattle.late_routes.specs.declared.plan.Outstanding.{Outstanding}

-- the plan of the call with this number; calls without one are done
abbrev pub plan_at : List LatePlan → ℕ → LatePlan
plan_at plans number = unwrap_or (slice_get plans number) Done

-- the number of the call before which a message arrives that is late by so many calls; none for 0
abbrev pub due_of : ℕ → ℕ → Option ℕ
due_of number calls = if calls == 0 then None else Some (number + calls)

abbrev pub is_due_at : ℕ → Option ℕ → Bool
is_due_at number None = false
is_due_at number (Some due) = nat_le due number

-- the message arrives before the call with this number
abbrev pub is_due : ℕ → Outstanding → Bool
is_due number m = is_due_at number m.due
