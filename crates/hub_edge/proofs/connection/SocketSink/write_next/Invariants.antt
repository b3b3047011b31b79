use Rattle.std.proofs.Common.{◌≡◌}
use Rattle.hub_edge.proofs.connection.SocketSink.write_next.Given as goal

abbrev pub invariant-loop : goal.invariant-loop
invariant-loop l = l.self.faults ≡ l.fn.self.faults
