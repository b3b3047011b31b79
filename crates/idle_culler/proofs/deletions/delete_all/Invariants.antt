use Rattle.std.proofs.Common.{◌≡◌, ◌+◌, ◌≤◌}
use Rattle.idle_culler.proofs.LoopLemmas.{Deleting}
use Rattle.idle_culler.proofs.deletions.delete_all.Given as goal

abbrev pub invariant-all : goal.invariant-all
invariant-all g l = record {
  done : Deleting g.H.HubLink.asked g.H.HubLink.does l.fn.link l.token l.remove l.culls l.cull-index l.counts.culled l.counts.refused l.link;
  sum : l.counts.culled + l.counts.refused ≡ l.cull-index;
  counted : g.H.HubLink.faults l.fn.link ≤ g.H.HubLink.faults l.link;
}
