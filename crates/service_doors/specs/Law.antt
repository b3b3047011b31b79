-- What is true of services from the first round to the end.
use Rattle.std.specs.Prelude.{◌≡◌, ◌<◌, ◌^◌, ℕ, List, [], length, map, Option, Some}
use Rattle.services_run.specs.Calls.{PathCall, RunCall}
use Rattle.services_run.specs.Law.{AllHeld, AllOwn, NumbersRise, OnePerService, StartsAlone, labels, may_run, nobody}
use Rattle.services_run.specs.New.{IsRepeated, placed}
use Rattle.services_run.specs.declared.place.Managed.{Managed}
use Rattle.service_doors.specs.Tending.{Attended, ServicesTold}

-- Of services whose names and targets are their own, by devices that had told no call before: of each at most one program may run, a start
-- comes only where none may, numbers rise, and the programs that may run at the end are those of the services that are left. Each addition
-- leads to the target of its own service
abbrev pub AttendedAreLawful : Type 0
AttendedAreLawful =
    (managed : List Managed) (s s' : ServicesTold) (given given' : Option ℕ) → length managed < 2 ^ 32
    → ((i : ℕ) → ¬ (IsRepeated managed i))
    → s.runs ≡ Some [] → s.routes ≡ Some [] → (a : Attended managed s given s' given')
    → ((runs : List RunCall) → s'.runs ≡ Some runs
    → OnePerService (may_run runs) × StartsAlone nobody runs × NumbersRise 0 runs × AllHeld a.ended.places (may_run runs))
    × ((paths : List PathCall) → s'.routes ≡ Some paths → AllOwn (labels (map placed managed)) paths)
