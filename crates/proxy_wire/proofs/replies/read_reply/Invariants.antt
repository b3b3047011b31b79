use Rattle.std.proofs.Common.{◌≤◌, ◌+◌, ◌-◌, [], length}
use Rattle.upstreams.specs.Upstream.{Moves}
use Rattle.proxy_wire.proofs.ReplyLemmas.{Skipped}
use Rattle.proxy_wire.proofs.replies.read_reply.Given as goal

abbrev pub invariant-heads : goal.invariant-heads
invariant-heads g l = record {
  skipped : Skipped l.window l.at;
  fits : l.at ≤ length l.window;
  moved : Moves (g.U.Upstream.told l.fn.up) [] l.window (g.U.Upstream.told l.up);
  counted : g.U.Upstream.faults l.fn.up ≤ g.U.Upstream.faults l.up;
}

abbrev pub decreases-heads : goal.decreases-heads
decreases-heads g l = 32768 - (length l.window + l.at)
