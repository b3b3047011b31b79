use Rattle.std.proofs.Common.{◌≤◌, ◌-◌, ◌++◌, length, take}
use Rattle.http_wire.specs.Took.{Took}
use Rattle.http_wire.proofs.body.fill_body.Given as goal

abbrev pub invariant-fills : goal.invariant-fills
invariant-fills g l = record {
  within : l.at ≤ length l.body;
  took : Took (g.I.Source.left l.fn.input) l.fn.kept (g.I.Source.left l.input) (take l.at l.body ++ l.kept);
  counted : g.I.Source.faults l.fn.input ≤ g.I.Source.faults l.input;
}

abbrev pub decreases-fills : goal.decreases-fills
decreases-fills g l = length l.body - l.at
