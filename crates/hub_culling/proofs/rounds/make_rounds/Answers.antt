use Rattle.std.proofs.Common.{refl, arith, ◌∙◌}
use Rattle.hub_culling.specs.Scenes.{scene}
use Rattle.hub_culling.proofs.TurnLemmas.{made_more, made_end, made_fails}
use Rattle.hub_culling.proofs.rounds.make_rounds.Goals as goal

pub returns-in-Err-clause-ends : goal.returns-in-Err-clause-ends
returns-in-Err-clause-ends g c =
    made_fails g.W.Asks.HubLink.asked g.W.Asks.HubLink.does c.args.token.now c.args.options.now c.args.seconds c.args.count _
    (scene g.W.Time.Clock.to_come g.W.Out.Sink.held g.W.Rests.Pause.waits c.rounds.outside.link c.rounds.outside.clock c.rounds.outside.output c.rounds.outside.rest) _
    c.rounds.made c.in-Err.cause c.rounds.invariant.done (omega (arith, c.rounds-test.true)) c.in-Err.ensures.err

pub rounds-preserved : goal.rounds-preserved
rounds-preserved g c = record {
  done = made_more g.W.Asks.HubLink.asked g.W.Asks.HubLink.does c.args.token.now c.args.options.now c.args.seconds _
      (scene g.W.Time.Clock.to_come g.W.Out.Sink.held g.W.Rests.Pause.waits c.rounds.outside.link c.rounds.outside.clock c.rounds.outside.output c.rounds.outside.rest)
      (scene g.W.Time.Clock.to_come g.W.Out.Sink.held g.W.Rests.Pause.waits c.make_round.new.outside.link c.make_round.new.outside.clock c.make_round.new.outside.output
      c.make_round.new.outside.rest)
      _ c.rounds.made c.rounds.invariant.done c.in-Ok.ensures.ok (record { link = refl; moments = refl; written = refl; waits = c.wait.ensures });
  fewer = omega (arith, c.rounds-test.true);
  files = c.make_round.ensures.files ∙ c.rounds.invariant.files;
  asks = omega (arith, c.rounds.invariant.asks, c.make_round.ensures.asks);
  writes = omega (arith, c.rounds.invariant.writes, c.make_round.ensures.writes);
}

pub returns-clause-ends : goal.returns-clause-ends
returns-clause-ends g c =
    made_end g.W.Asks.HubLink.asked g.W.Asks.HubLink.does c.args.token.now c.args.options.now c.args.seconds c.args.count _
    (scene g.W.Time.Clock.to_come g.W.Out.Sink.held g.W.Rests.Pause.waits c.rounds.outside.link c.rounds.outside.clock c.rounds.outside.output c.rounds.outside.rest) _
    c.rounds.made c.make_round-2.result c.rounds.invariant.done (omega (arith, c.rounds.invariant.fewer, c.rounds-test.false, c.if-count-eq0.false))
    c.make_round-2.ensures.ok c.make_round-2.ensures.err
