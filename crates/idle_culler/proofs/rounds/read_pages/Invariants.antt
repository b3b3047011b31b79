use Rattle.std.proofs.Common.{◌-◌, ◌≤◌}
use Rattle.idle_culler.proofs.LoopLemmas.{Reading}
use Rattle.idle_culler.proofs.rounds.read_pages.Given as goal

abbrev pub invariant-pages : goal.invariant-pages
invariant-pages g l = record {
  done : Reading g.H.HubLink.asked g.H.HubLink.does l.fn.link l.token l.options l.now l.list l.users l.offset l.link;
  place : l.offset ≤ 100000;
  few : l.users ≤ l.offset;
  counted : g.H.HubLink.faults l.fn.link ≤ g.H.HubLink.faults l.link;
}

abbrev pub decreases-pages : goal.decreases-pages
decreases-pages g l = 100000 - l.offset
