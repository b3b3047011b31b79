use Rattle.std.proofs.Common.{length}
use Rattle.piece_window.proofs.rooms.drain.Given as goal

abbrev pub invariant-pieces : goal.invariant-pieces
invariant-pieces l = Unit {0}

abbrev pub decreases-pieces : goal.decreases-pieces
decreases-pieces l = length l.kept
