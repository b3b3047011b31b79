use Rattle.std.proofs.Common.{◌-◌, ◌≤◌, ◌≡◌, length}
use Rattle.tunnel.proofs.FlowLemmas.{Flowed}
use Rattle.tunnel.proofs.pumps.carry.Given as goal

abbrev pub invariant-turns : goal.invariant-turns
invariant-turns g l = record {
  flowed : Flowed (g.I.Source.left l.fn.input) (g.O.Sink.held l.fn.output) (g.I.Source.left l.input) (g.O.Sink.held l.output) l.first l.most l.passed;
  room : length l.buffer ≡ 8192;
  reads : g.I.Source.faults l.fn.input ≤ g.I.Source.faults l.input;
  writes : g.O.Sink.faults l.fn.output ≤ g.O.Sink.faults l.output;
}

abbrev pub decreases-turns : goal.decreases-turns
decreases-turns g l = l.most - l.passed
