-- When services can be kept.
use Rattle.std.specs.Prelude.{◌≡◌, ◌<◌, ◌⊎◌, ℕ, List, Some, slice_get, map}
use Rattle.services_run.specs.declared.place.Managed.{Managed}
use Rattle.services_run.specs.declared.place.State.TheVariants.{Down}
use Rattle.services_run.specs.declared.place.Place.{Place}
use Rattle.services_run.specs.Law.{service_path}

-- The two services have the same name or the same target
abbrev pub Clashes : Managed → Managed → Type 0
Clashes a b = (a.name ≡ b.name) ⊎ (a.target ≡ b.target)

-- The services at the places j and i have the same name or the same target
abbrev pub ClashAt : List Managed → ℕ → ℕ → Type 0
ClashAt ms j i = (a b : Managed) × (slice_get ms j ≡ Some a) × (slice_get ms i ≡ Some b) × Clashes a b

-- The name or the target of the service at this place stood at one before
abbrev pub IsRepeated : List Managed → ℕ → Type 0
IsRepeated ms i = (j : ℕ) × (j < i) × ClashAt ms j i

-- The first such place
abbrev pub IsFirstRepeated : List Managed → ℕ → Type 0
IsFirstRepeated ms at = IsRepeated ms at × ((i : ℕ) → i < at → ¬ (IsRepeated ms i))

-- A service that is new: Down, without a try
abbrev pub placed : Managed → Place
placed m = record { managed = m; path = service_path m.name; state = Down; tries = 0 }

-- These are the services, all of them new
abbrev pub ArePlaced : List Managed → List Place → Type 0
ArePlaced ms ps = ps ≡ map placed ms
