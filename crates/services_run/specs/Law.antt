-- What may run after some calls, and what the calls keep.
use Rattle.std.specs.Prelude.{◌≡◌, ◌≢◌, ℕ, if◌then◌else◌, nat_eq, codes, List, [], ◌∷◌, ◌++◌, Option, Some, None, slice_get, map}
use Rattle.hub_devices.specs.Calls.{Grows}
use Rattle.hub_devices.specs.Faults.{Rises}
use Rattle.hub_devices.specs.declared.calls.Routing.{Routing}
use Rattle.hub_devices.specs.declared.calls.Routing.TheVariants as Route
use Rattle.hub_devices.specs.declared.calls.Told.{Told}
use Rattle.services_run.specs.Calls.{RunCall, PathCall, is_done, is_over}
use Rattle.services_run.specs.declared.calls.ServiceCall.{ServiceCall}
use Rattle.services_run.specs.declared.calls.ServiceCall.TheVariants.{Start, Stop, Poll}
use Rattle.services_run.specs.declared.place.State.{State}
use Rattle.services_run.specs.declared.place.State.TheVariants.{Down, Up, Loose, GivenUp}
use Rattle.services_run.specs.declared.place.Managed.{Managed}
use Rattle.services_run.specs.declared.place.Place.{Place}
use Rattle.services_run.specs.declared.place.Tended.{Tended}
use Rattle.services_run.specs.Rules.{Rule}
use Rattle.services_run.specs.Rounds.{World, Move, run, fresh, Rounded}

-- The service of each program that may run, by the program's number
abbrev pub Alive : Type 0
Alive = ℕ → Option (List ℕ)

-- No program may run
abbrev pub nobody : Alive
nobody g = None

-- What may run, but at the number g this service, or none
abbrev pub set_at : Alive → ℕ → Option (List ℕ) → Alive
set_at f g v h = if nat_eq h g then v else f h

-- What may run after a call that told this: a start that was done adds its program, and a stop that was done, or a poll that told that
-- nothing runs, takes it away. A failed call changes nothing
abbrev pub after_told : Alive → ServiceCall → Told → Alive
after_told f (Start g name target secret) told = if is_done told then set_at f g (Some name) else f
after_told f (Stop g target) told = if is_done told then set_at f g None else f
after_told f (Poll g target) told = if is_over told then set_at f g None else f

-- The same of a call with what it told
abbrev pub after_call : Alive → RunCall → Alive
after_call f c = after_told f c.0 c.1

-- What may run after these calls, one after the other, where f was what might run before
abbrev pub alive_after : Alive → List RunCall → Alive
alive_after f [] = f
alive_after f (c ∷ cs) = alive_after (after_call f c) cs

-- What may run after these calls, where nothing did before: the programs whose start was done, with no later stop that was done and no
-- later poll that told that nothing runs
abbrev pub may_run : List RunCall → Alive
may_run calls = alive_after nobody calls

-- At most one program of each service may run
abbrev pub OnePerService : Alive → Type 0
OnePerService f = (g h : ℕ) (name : List ℕ) → f g ≡ Some name → f h ≡ Some name → g ≡ h

-- Where this call is a start, no program of its service may run, by what may run before it
abbrev pub IsFree : Alive → ServiceCall → Type 0
IsFree f (Start g name target secret) = (h : ℕ) → f h ≢ Some name
IsFree f (Stop g target) = Unit {0}
IsFree f (Poll g target) = Unit {0}

-- Each start among these calls comes only where no program of that service may run; f is what may run before the first
abbrev pub StartsAlone : Alive → List RunCall → Type 0
StartsAlone f [] = Unit {0}
StartsAlone f (c ∷ cs) = IsFree f c.0 × StartsAlone (after_call f c) cs

-- The number of the last start, where the call came behind one with the number `last`
abbrev pub last_start : ℕ → ServiceCall → ℕ
last_start last (Start g name target secret) = g
last_start last (Stop g target) = last
last_start last (Poll g target) = last

-- The number of the last start among these calls, or `last` where they have none
abbrev pub last_number : ℕ → List RunCall → ℕ
last_number last [] = last
last_number last (c ∷ cs) = last_number (last_start last c.0) cs

-- Where this call is a start, its number is above the last one, unless that was the greatest of all
abbrev pub IsLater : ℕ → ServiceCall → Type 0
IsLater last (Start g name target secret) = Rises last g
IsLater last (Stop g target) = Unit {0}
IsLater last (Poll g target) = Unit {0}

-- Each start among these calls has a greater number than those before and than `last`, unless that was the greatest of all
abbrev pub NumbersRise : ℕ → List RunCall → Type 0
NumbersRise last [] = Unit {0}
NumbersRise last (c ∷ cs) = IsLater last c.0 × NumbersRise (last_start last c.0) cs

-- what of a service never changes
pub record Label : Type 0 where
  pub managed : Managed
  pub path : List ℕ

-- The label of a service, which no visit changes
abbrev pub label : Place → Label
label p = record { managed = p.managed; path = p.path }

-- The labels of services, at their places
abbrev pub labels : List Place → List Label
labels ps = map label ps

-- The path of a service's route: `/services/` and its name
abbrev pub service_path : List ℕ → List ℕ
service_path name = codes "/services/" ++ name

-- This is the path of one of the services
abbrev pub HasPath : List Label → List ℕ → Type 0
HasPath ls path = (i : ℕ) × (l : Label) × (slice_get ls i ≡ Some l) × (path ≡ service_path l.managed.name)

-- This is the path of one of the services, and this is that service's target
abbrev pub HasRoute : List Label → List ℕ → List ℕ → Type 0
HasRoute ls path target =
    (i : ℕ) × (l : Label) × (slice_get ls i ≡ Some l) × (path ≡ service_path l.managed.name) × (target ≡ l.managed.target)

-- A call on the routes is about one of the services: an addition is of a service's path, names its target and has no serial; a deletion is
-- of a service's path; nothing else is asked
abbrev pub IsOwn : List Label → Routing → Type 0
IsOwn ls (Route.Add path target serial) = HasRoute ls path target × (serial ≡ None)
IsOwn ls (Route.Delete path serial) = HasPath ls path
IsOwn ls Route.List = ⊥

-- Each of these calls on the routes is about one of the services
abbrev pub AllOwn : List Label → List PathCall → Type 0
AllOwn ls [] = Unit {0}
AllOwn ls (c ∷ cs) = IsOwn ls c.0 × AllOwn ls cs

-- No two places have services of one name
abbrev pub HasDistinctNames : List Label → Type 0
HasDistinctNames ls =
    (i j : ℕ) (k l : Label) → slice_get ls i ≡ Some k → slice_get ls j ≡ Some l → k.managed.name ≡ l.managed.name → i ≡ j

-- Each service has the path of its name
abbrev pub HasPaths : List Label → Type 0
HasPaths ls = (i : ℕ) (l : Label) → slice_get ls i ≡ Some l → l.path ≡ service_path l.managed.name

-- The number of the program that runs, or may run, in this state
abbrev pub generation_of : State → Option ℕ
generation_of Down = None
generation_of (Up g) = Some g
generation_of (Loose g) = Some g
generation_of GivenUp = None

-- Each program that may run is that of a service's state
abbrev pub AllHeld : List Place → Alive → Type 0
AllHeld ps f =
    (g : ℕ) (name : List ℕ) → f g ≡ Some name
    → (i : ℕ) × (p : Place) × (slice_get ps i ≡ Some p) × (p.managed.name ≡ name) × (generation_of p.state ≡ Some g)

-- The law of a world reached by any visits, where the services had these labels and `last` was the last number before: labels stay, at most
-- one program of each service may run, a start comes only where none may, numbers rise, each call on the routes is about a service, and
-- each program that may run is that of a service's state
pub record IsLawful (ls : List Label) (last : ℕ) (w : World) : Type 0 where
  pub same : labels w.places ≡ ls
  pub one : OnePerService (may_run w.runs)
  pub alone : StartsAlone nobody w.runs
  pub rise : NumbersRise last w.runs
  pub number : last_number last w.runs ≡ w.last
  pub own : AllOwn ls w.paths
  pub held : AllHeld w.places (may_run w.runs)

-- Services whose names are distinct, and whose paths are those of their names, keep this law by any visits, whatever the devices answer
abbrev pub ServicesAreLawful : Type 0
ServicesAreLawful =
    (ps : List Place) (last : ℕ) (ms : List Move) → HasDistinctNames (labels ps) → HasPaths (labels ps)
    → IsLawful (labels ps) last (run (fresh ps last) ms)

-- Some visits led from one state of the services and of the devices to another. Before them the services were `old`, `last` was the last
-- number, and r and q were the calls told on programs and on routes; `new` and those with a prime are the same after them
pub record Lived (old : List Place) (last : ℕ) (r : Option (List RunCall)) (q : Option (List PathCall))
    (new : List Place) (last' : ℕ) (r' : Option (List RunCall)) (q' : Option (List PathCall)) : Type 0 where
  pub moves : List Move
  pub tally : Tended
  pub runs : List RunCall
  pub paths : List PathCall
  pub is : run (fresh old last) moves ≡ record { places = new; last = last'; tally = tally; runs = runs; paths = paths }
  pub told_runs : Grows r runs r'
  pub told_paths : Grows q paths q'

-- Without a visit all stays as it is
abbrev pub LivedAtFirst : Type 0
LivedAtFirst =
    (places : List Place) (last : ℕ) (r : Option (List RunCall)) (q : Option (List PathCall)) → Lived places last r q places last r q

-- Visits and then a round are visits again
abbrev pub RoundsFollow : Type 0
RoundsFollow =
    (old mid new : List Place) (last last' last'' n : ℕ) (r r' r'' : Option (List RunCall)) (q q' q'' : Option (List PathCall))
    (rule : Rule) (tally : Tended)
    → Lived old last r q mid last' r' q' → Rounded rule mid last' r' q' n new last'' tally r'' q''
    → Lived old last r q new last'' r'' q''

-- Of devices that had told no call before: the law of those that they tell after any visits
abbrev pub ToldAreLawful : Type 0
ToldAreLawful =
    (old new : List Place) (last last' : ℕ) (r' : Option (List RunCall)) (q' : Option (List PathCall))
    → HasDistinctNames (labels old) → HasPaths (labels old) → Lived old last (Some []) (Some []) new last' r' q'
    → (labels new ≡ labels old)
    × ((runs : List RunCall) → r' ≡ Some runs
    → OnePerService (may_run runs) × StartsAlone nobody runs × NumbersRise last runs × AllHeld new (may_run runs))
    × ((paths : List PathCall) → q' ≡ Some paths → AllOwn (labels old) paths)
