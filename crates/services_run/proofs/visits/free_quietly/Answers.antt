use Rattle.std.proofs.Common.{true, None, ap}
use Rattle.services_run.specs.declared.place.State.{State}
use Rattle.services_run.specs.declared.place.Outcome.TheVariants.{Quiet}
use Rattle.services_run.specs.Rules.{turn}
use Rattle.services_run.proofs.visits.free_quietly.Goals as goal

pub returns-clause-freed : goal.returns-clause-freed
returns-clause-freed g c =
    let freed = c.free-state.ensures.freed in record {
      answers = record { start = true; add = true; delete = freed.delete; stop = freed.stop; poll = None };
      turn_is = ap (λ (s : State). turn s c.args.place.now.tries c.args.last Quiet) freed.state_is;
      runs = freed.runs;
      paths = freed.paths;
    }
