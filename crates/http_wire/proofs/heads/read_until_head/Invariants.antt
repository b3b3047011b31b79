use Rattle.std.proofs.Common.{◌≤◌, ◌-◌, length}
use Rattle.http_wire.specs.Took.{Took}
use Rattle.http_wire.proofs.heads.read_until_head.Given as goal

abbrev pub invariant-reads : goal.invariant-reads
invariant-reads g l = record {
  took : Took (g.I.Source.left l.fn.input) l.fn.kept (g.I.Source.left l.input) l.kept;
  counted : g.I.Source.faults l.fn.input ≤ g.I.Source.faults l.input;
}

abbrev pub decreases-reads : goal.decreases-reads
decreases-reads g l = 16384 - length l.kept
