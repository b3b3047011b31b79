use Rattle.std.proofs.Common.{◌≡◌, ◌-◌, ◌≤◌}
use Rattle.hub_culling.specs.Scenes.{scene}
use Rattle.hub_culling.proofs.TurnLemmas.{Made}
use Rattle.hub_culling.proofs.rounds.make_rounds.Given as goal

abbrev pub invariant-rounds : goal.invariant-rounds
invariant-rounds g l = record {
  done : Made g.W.Asks.HubLink.asked g.W.Asks.HubLink.does l.token l.options l.seconds
      (scene g.W.Time.Clock.to_come g.W.Out.Sink.held g.W.Rests.Pause.waits l.fn.outside.link l.fn.outside.clock l.fn.outside.output l.fn.outside.rest)
      l.made
      (scene g.W.Time.Clock.to_come g.W.Out.Sink.held g.W.Rests.Pause.waits l.outside.link l.outside.clock l.outside.output l.outside.rest);
  fewer : l.made ≤ l.count - 1;
  files : l.outside.files ≡ l.fn.outside.files;
  asks : g.W.Asks.HubLink.faults l.fn.outside.link ≤ g.W.Asks.HubLink.faults l.outside.link;
  writes : g.W.Out.Sink.faults l.fn.outside.output ≤ g.W.Out.Sink.faults l.outside.output;
}

abbrev pub decreases-rounds : goal.decreases-rounds
decreases-rounds g l = l.count - 1 - l.made
