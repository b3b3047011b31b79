use Rattle.std.proofs.Common.{◌≤◌, ◌-◌, length, take}
use Rattle.hub_devices.specs.Streams.{Appends}
use Rattle.tunnel.proofs.pumps.send.Given as goal

abbrev pub invariant-writes : goal.invariant-writes
invariant-writes g l = record {
  within : l.at ≤ length l.bytes;
  appends : Appends (g.O.Sink.held l.fn.output) (take l.at l.bytes) (g.O.Sink.held l.output);
  counted : g.O.Sink.faults l.fn.output ≤ g.O.Sink.faults l.output;
}

abbrev pub decreases-writes : goal.decreases-writes
decreases-writes g l = length l.bytes - l.at
