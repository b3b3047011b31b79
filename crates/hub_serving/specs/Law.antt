-- What the clause of `run` on the services of a plan comes to.
use Rattle.std.specs.Prelude.{◌≡◌, List, [], map, Option, Some}
use Rattle.services_run.specs.Calls.{PathCall, RunCall}
use Rattle.services_run.specs.Law.{AllOwn, NumbersRise, OnePerService, StartsAlone, labels, may_run, nobody}
use Rattle.services_run.specs.New.{placed}
use Rattle.hub_words.specs.declared.serve.ServeWords.{ServeWords}
use Rattle.hub_main.specs.Told.{FilesTold}
use Rattle.hub_serving.specs.Ends.{End}
use Rattle.hub_serving.specs.Hall.{Hall}
use Rattle.hub_serving.specs.Plans.{IsPlanOf}
use Rattle.hub_serving.specs.Served.{Attends}
use Rattle.hub_serving.specs.Services.{service_of}
use Rattle.hub_serving.specs.declared.plan.Plan.{Plan}

-- of each service at most one program may run, a start comes only where none may, and numbers rise
abbrev pub RunsLawfully : List RunCall → Type 0
RunsLawfully runs = OnePerService (may_run runs) × StartsAlone nobody runs × NumbersRise 0 runs

-- So it is of the services of every file, by devices that had told no call before; and each addition leads to the target of its own service
abbrev pub PlannedAreLawful : Type 0
PlannedAreLawful =
    (found : Option ServeWords) (files : FilesTold) (plan : Plan) (h h' : Hall) (end : End) → IsPlanOf found files plan
    → Attends plan.managed h h' end → h.services.runs ≡ Some [] → h.services.routes ≡ Some []
    → ∥ ((runs : List RunCall) → h'.services.runs ≡ Some runs → RunsLawfully runs)
    × ((paths : List PathCall) → h'.services.routes ≡ Some paths → AllOwn (labels (map placed (map service_of plan.managed))) paths) ∥₁
