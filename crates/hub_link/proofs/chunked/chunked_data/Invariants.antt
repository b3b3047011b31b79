use Rattle.std.proofs.Common.{◌≤◌, ◌-◌, length, take}
use Rattle.hub_link.proofs.ChunkLemmas.{Gathers}
use Rattle.hub_link.proofs.chunked.chunked_data.Given as goal

abbrev pub invariant-parts : goal.invariant-parts
invariant-parts l = record {
  within : l.count ≤ length l.bytes;
  gathers : Gathers l.at (take l.count l.bytes) l.content;
}

abbrev pub decreases-parts : goal.decreases-parts
decreases-parts l = length l.bytes - l.count
