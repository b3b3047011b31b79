-- What the services are seen as.
use Rattle.std.specs.Prelude.{◌≡◌, ◌≢◌, ℕ, ◌<◌, ◌^◌, List, length, Option, Some, None, slice_get}
use Rattle.services_run.specs.declared.place.State.{State}
use Rattle.services_run.specs.declared.place.State.TheVariants.{Up}
use Rattle.services_run.specs.declared.place.Place.{Place}
use Rattle.services_run.specs.Law.{labels, HasDistinctNames, HasPaths}

-- What is known of all services: each at its place, and the last number that a program got
pub record Book : Type 0 where
  pub places : List Place
  pub last : ℕ

-- There are fewer than 2^32 services, their names are distinct, and each has the path of its name
pub record IsBook (b : Book) : Type 0 where
  pub few : length b.places < 2 ^ 32
  pub distinct : HasDistinctNames (labels b.places)
  pub paths : HasPaths (labels b.places)

-- The state and the tries of a service, where there is one
abbrev pub state_of : Option Place → Option (State × ℕ)
state_of None = None
state_of (Some p) = Some (p.state, p.tries)

-- the first n services aren't Up
abbrev pub NoneUp : List Place → ℕ → Type 0
NoneUp ps n = (i : ℕ) (p : Place) (g : ℕ) → i < n → slice_get ps i ≡ Some p → p.state ≢ Up g
