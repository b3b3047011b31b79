use Rattle.std.proofs.Common.{true, false, refl, None, ap, ◌+◌}
use Rattle.services_run.specs.declared.place.State.{State}
use Rattle.services_run.specs.declared.place.Outcome.TheVariants.{Failing}
use Rattle.services_run.specs.Rules.{turn}
use Rattle.hub_devices.proofs.CallLemmas.{Grows_none, Grows_then}
use Rattle.services_run.proofs.visits.begin.Goals as goal

pub returns-in-Ok-add-clause-begun : goal.returns-in-Ok-add-clause-begun
returns-in-Ok-add-clause-begun g c = record {
  answers = record { start = true; add = true; delete = true; stop = true; poll = None };
  turn_is = refl;
  runs = c.in-Ok.ensures.calls;
  paths = c.in-Ok-add.ensures.calls;
}

pub returns-in-Err-add-clause-begun : goal.returns-in-Err-add-clause-begun
returns-in-Err-add-clause-begun g c =
    let freed = c.free-state.ensures.freed in record {
      answers = record { start = true; add = false; delete = freed.delete; stop = freed.stop; poll = None };
      turn_is = ap (λ (s : State). turn s (c.args.place.now.tries + 1) c.args.g Failing) freed.state_is;
      runs = Grows_then _ _ _ _ _ c.in-Ok.ensures.calls freed.runs;
      paths = Grows_then _ _ _ _ _ c.in-Err-add.ensures.calls freed.paths;
    }

pub returns-in-Err-clause-begun : goal.returns-in-Err-clause-begun
returns-in-Err-clause-begun g c = record {
  answers = record { start = false; add = true; delete = true; stop = true; poll = None };
  turn_is = refl;
  runs = c.in-Err.ensures.calls;
  paths = Grows_none _;
}
