-- A hub that has to serve: its plan is good, and no device failed.
use Rattle.std.specs.Prelude.{◌≡◌, ◌⊎◌, ℕ, false, List, Option, Some, Ok}
use Rattle.keeper.specs.Rows.{Rows}
use Rattle.hub_devices.specs.ToCome as moments
use Rattle.hub_main.specs.Good.{Fits, Stands}
use Rattle.hub_serving.specs.Hall.{Hall}
use Rattle.hub_serving.specs.Ends.{End}
use Rattle.hub_serving.specs.declared.end.Line.TheVariants.{Written}
use Rattle.hub_serving.specs.declared.plan.Plan.{Plan}

-- the plan fits the rows of the chosen store, at the moment that the clock gives
abbrev pub IsGood : {K : Type 0} → (K → Rows) → (K → Option (List ℕ) → K → Type 0) → Plan → (clock : Option (ℕ → ℕ)) → K → Type 0
IsGood {K} rows Chooses plan clock k = (chosen : K) (now : ℕ) (later : Option (ℕ → ℕ)) → Chooses k plan.db chosen
    → moments.Tells clock now later
    → Fits plan.hub now (rows chosen)

-- no count of the listener, the output and the store rose
pub record NoneRose {K : Type 0} (faults : K → ℕ) (h h' : Hall) (k k' : K) : Type 0 where
  pub doors : Stands h.doors.faults h'.doors.faults
  pub output : Stands h.output.faults h'.output.faults
  pub store : Stands (faults k) (faults k')

-- as many connections were served as were asked for, and the line says so
abbrev pub all_served : (connections : ℕ) → End
all_served connections = Ok (record { count = connections; failed = false; line = Written })

-- All connections of the plan were served, and the line says so, with the status 0; or memory was wanting, which is the status 7
abbrev pub EndsWell : Plan → (told : Option End) → (status : ℕ) → Type 0
EndsWell plan told status = ((status ≡ 0) × (told ≡ Some (all_served plan.connections))) ⊎ (status ≡ 7)
