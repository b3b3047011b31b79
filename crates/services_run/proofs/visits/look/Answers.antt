use Rattle.std.proofs.Common.{true, false, refl, Some, None, ap, ◌∙◌, ℕ, if◌then◌else◌}
use Rattle.services_run.specs.declared.place.State.{State}
use Rattle.services_run.specs.declared.place.State.TheVariants.{Down, Loose}
use Rattle.services_run.specs.declared.place.Outcome.TheVariants.{Lost}
use Rattle.services_run.specs.Rules.{turn}
use Rattle.hub_devices.proofs.CallLemmas.{Grows_none}
use Rattle.services_run.proofs.visits.look.Goals as goal

pub returns-in-Ok-true-clause-looked : goal.returns-in-Ok-true-clause-looked
returns-in-Ok-true-clause-looked g c = record {
  answers = record { start = true; add = true; delete = true; stop = true; poll = Some true };
  turn_is = refl;
  runs = rw c.in-Ok-true.field-0-test at c.in-Ok-true.ensures.calls;
  paths = Grows_none _;
}

pub returns-in-Ok-false-clause-looked : goal.returns-in-Ok-false-clause-looked
returns-in-Ok-false-clause-looked g c =
    let gone = c.unroute-state.ensures.unrouted in record {
      answers = record { start = true; add = true; delete = gone.delete; stop = true; poll = Some false };
      turn_is = ap (λ (s : State). turn s c.saturating_add.result c.args.last Lost) gone.state_is
          ∙ ap (λ (n : ℕ). turn (if gone.delete then Down else Loose c.args.g) n c.args.last Lost) c.saturating_add.ensures;
      runs = rw c.in-Ok-false.field-0-test at c.in-Ok-false.ensures.calls;
      paths = gone.paths;
    }

pub returns-in-Err-clause-looked : goal.returns-in-Err-clause-looked
returns-in-Err-clause-looked g c = record {
  answers = record { start = true; add = true; delete = true; stop = true; poll = None };
  turn_is = refl;
  runs = c.in-Err.ensures.calls;
  paths = Grows_none _;
}
