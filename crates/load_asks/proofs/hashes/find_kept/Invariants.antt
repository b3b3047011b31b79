use Rattle.load_asks.specs.Hashes.{Keeps, AreApart}
use Rattle.load_asks.proofs.hashes.find_kept.Given as goal

abbrev pub invariant-loop-k : goal.invariant-loop-k
invariant-loop-k l = record { keeps : Keeps l.kept l.k; apart : AreApart l.k }
