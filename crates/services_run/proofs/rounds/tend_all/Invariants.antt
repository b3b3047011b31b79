use Rattle.std.proofs.Common.{◌≤◌, ◌+◌, ◌-◌, ◌≡◌, length}
use Rattle.services_run.specs.Rules.{tending}
use Rattle.services_run.specs.Rounds.{Rounded}
use Rattle.services_run.proofs.rounds.tend_all.Given as goal

abbrev pub invariant-visits : goal.invariant-visits
invariant-visits g l = record {
  size : length l.places ≡ length l.fn.places;
  within : l.at ≤ length l.places;
  few : l.tally.started + l.tally.lost + l.tally.failed ≤ l.at;
  so : Rounded (tending l.now) l.fn.places l.last (g.R.Running.calls l.fn.running) (g.P.Paths.calls l.fn.paths) l.at l.places l.number l.tally (g.R.Running.calls l.running) (g.P.Paths.calls l.paths);
  runs : g.R.Running.faults l.fn.running ≤ g.R.Running.faults l.running;
  paths : g.P.Paths.faults l.fn.paths ≤ g.P.Paths.faults l.paths;
}

abbrev pub decreases-visits : goal.decreases-visits
decreases-visits g l = length l.places - l.at
