use Rattle.std.proofs.Common.{◌≡◌, ◌<◌, ◌≤◌, ◌-◌, false, length, take}
use Rattle.hub_devices.specs.Streams.{Appends}
use Rattle.http_wire.proofs.writes.write_all.Given as goal

abbrev pub invariant-writes : goal.invariant-writes
invariant-writes g l = record {
  within : l.at ≤ length l.bytes;
  appends : Appends (g.O.Sink.held l.fn.output) (take l.at l.bytes) (g.O.Sink.held l.output);
  open' : 0 < l.at → g.O.Sink.closed l.fn.output ≡ false;
  stays : g.O.Sink.closed l.output ≡ g.O.Sink.closed l.fn.output;
  counted : g.O.Sink.faults l.fn.output ≤ g.O.Sink.faults l.output;
}

abbrev pub decreases-writes : goal.decreases-writes
decreases-writes g l = length l.bytes - l.at
