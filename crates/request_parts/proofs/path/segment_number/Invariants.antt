use Rattle.std.proofs.Common.{◌≡◌, ◌≤◌, ◌+◌, drop}
use Rattle.request_parts.specs.Paths.{segment_number}
use Rattle.request_parts.proofs.path.segment_number.Given as goal

abbrev pub invariant-loop-at : goal.invariant-loop-at
invariant-loop-at l = (l.slashes + segment_number l.fn.name (drop l.at l.bytes) ≡ segment_number l.fn.name l.fn.text) × (l.slashes ≤ l.at)
