use Rattle.std.specs.Prelude.{IsSome}
use Rattle.rows.proofs.sessions.play_parts.Given as goal

abbrev pub invariant-loop-number : goal.invariant-loop-number
invariant-loop-number g l = IsSome l.outside.store
