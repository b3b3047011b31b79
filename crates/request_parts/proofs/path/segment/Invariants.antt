use Rattle.std.proofs.Common.{◌≡◌, ◌-◌}
use denote.Shadow.{shadow}
use denote.Text.{Utf8}
use Rattle.request_parts.specs.Paths.{segment}
use Rattle.request_parts.proofs.path.segment.Given as goal

abbrev pub invariant-loop-passed : goal.invariant-loop-passed
invariant-loop-passed l = (segment (l.n - l.passed) l.rest ≡ segment l.n l.fn.path) × shadow (Utf8 l.rest)
