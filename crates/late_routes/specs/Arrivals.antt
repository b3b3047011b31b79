-- What the table is once messages arrived, and how a call goes.
use Rattle.std.specs.Prelude.{◌≡◌, ℕ, ◌<◌, Bool, true, false, List, [], ◌∷◌, ◌++◌, Some, slice_get}
use Rattle.std.specs.List.{remove}
use Rattle.hub_devices.specs.declared.calls.ListedRoute.{ListedRoute}
use Rattle.hub_devices.specs.declared.calls.Routing.{Routing}
use Rattle.hub_devices.specs.declared.calls.Routing.TheVariants as R
use Rattle.route_table.specs.declared.route.Route.{Route}
use Rattle.route_table.specs.Table.{Table}
use Rattle.world_law.specs.Answers.{Reply, Adds, Deletes, is_done}
use Rattle.late_routes.specs.declared.plan.LatePlan.{LatePlan}
use Rattle.late_routes.specs.declared.plan.LatePlan.TheVariants.{Done, Lost, Applied, Late}
use Rattle.late_routes.specs.declared.plan.Outstanding.{Outstanding}
use Rattle.late_routes.specs.Plans.{plan_at, due_of, is_due}

-- the message of a call arrives at a moment, and the table answers it
abbrev pub Arrives : Table → Routing → ℕ → Reply → Table → Type 0
Arrives t (R.Add path target serial) now reply t' = Adds t path (record { target = target; serial = serial; extra = [] }) now reply t'
Arrives t (R.Delete path serial) now reply t' = Deletes t path (Some serial) reply t'
Arrives t R.List now reply t' = t' ≡ t

-- the first message that is due stands at this place
pub record IsFirst (due : Outstanding → Bool) (ms : List Outstanding) (at : ℕ) (m : Outstanding) : Type 0 where
  pub there : slice_get ms at ≡ Some m
  pub is_due : due m ≡ true
  pub before : (k : ℕ) (other : Outstanding) → k < at → slice_get ms k ≡ Some other → due other ≡ false

abbrev pub NoneDue : (Outstanding → Bool) → List Outstanding → Type 0
NoneDue due ms = (k : ℕ) (m : Outstanding) → slice_get ms k ≡ Some m → due m ≡ false

-- messages that are due arrived one after the other, each time the first of them
pub data Arrived (due : Outstanding → Bool) (now : ℕ) : Table → List Outstanding → Table → List Outstanding → Type 0 where
  none : {t : Table} {ms : List Outstanding} → Arrived due now t ms t ms
  one_more : {t t' u : Table} {ms rest : List Outstanding} (at : ℕ) (m : Outstanding) (reply : Reply)
      → Arrived due now t ms t' rest → IsFirst due rest at m → Arrives t' m.call now reply u → Arrived due now t ms u (remove rest at)

-- how a call goes by its plan: what becomes of the table and of the messages on their way, and whether it is told as done
abbrev pub Goes : LatePlan → ℕ → Routing → Table → List Outstanding → Table → List Outstanding → Bool → Type 0
Goes Done number c t ms t' ms' done = (reply : Reply) × Arrives t c 0 reply t' × (ms' ≡ ms) × (done ≡ is_done c reply)
Goes Lost number c t ms t' ms' done = (t' ≡ t) × (ms' ≡ ms) × (done ≡ false)
Goes Applied number c t ms t' ms' done = (reply : Reply) × Arrives t c 0 reply t' × (ms' ≡ ms) × (done ≡ false)
Goes (Late calls) number c t ms t' ms' done =
    (t' ≡ t) × (ms' ≡ ms ++ record { call = c; due = due_of number calls } ∷ []) × (done ≡ false)

-- all messages that are due before the call with this number arrive at moment 0, and then it goes by its plan
pub record Sends (plans : List LatePlan) (number : ℕ) (c : Routing) (t : Table) (ms : List Outstanding) (t' : Table)
    (ms' : List Outstanding) (done : Bool) : Type 0 where
  pub table : Table
  pub left : List Outstanding
  pub before : Arrived (is_due number) 0 t ms table left
  pub all : NoneDue (is_due number) left
  pub goes : Goes (plan_at plans number) number c table left t' ms' done

abbrev pub listed_of : Route → ListedRoute
listed_of r = record { path = r.path; target = r.entry.target; serial = r.entry.serial }

abbrev pub any : Outstanding → Bool
any m = true
