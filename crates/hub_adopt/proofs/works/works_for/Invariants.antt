use Rattle.std.proofs.Common.{◌≡◌, take, map}
use Rattle.hub_adopt.specs.Adopting.{work_of}
use Rattle.hub_adopt.proofs.works.works_for.Given as goal

abbrev pub invariant-loop-live : goal.invariant-loop-live
invariant-loop-live l = l.works.items ≡ map work_of (take l.live-index l.servers)
