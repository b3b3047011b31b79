use Rattle.std.proofs.Common.{Some, refl, ap, ◌∙◌}
use Rattle.hub_devices.specs.Streams.{left_from}
use Rattle.hub_run.specs.Turns.{view_of}
use Rattle.direct_link.proofs.Asked.{connected, never_failed}
use Rattle.direct_link.proofs.direct.DirectLinkHubLink.ask.Goals as goal

pub returns-clause-does : goal.returns-clause-does
returns-clause-does g c =
    let left = c.serve_connection-served.new in (
      refl,
      refl,
      connected
          (view_of g.C.Clock.to_come g.R.Random.left g.S.Spawner.calls g.P.RouteLink.calls g.R.Random.faults g.S.Spawner.faults g.P.RouteLink.faults c.args.self.now.pass.now c.args.self.now.kit.now)
          (view_of g.C.Clock.to_come g.R.Random.left g.S.Spawner.calls g.P.RouteLink.calls g.R.Random.faults g.S.Spawner.faults g.P.RouteLink.faults left.pass left.kit)
          c.args.request.now c.reply_of-reply.result (left_from c.new-input.result.at c.new-input.result.bytes) (Some c.new-output.result.bytes)
          c.new-input.result.script.faults c.new-output.result.script.faults
          (record { bytes = left_from left.input.at left.input.bytes; faults = left.input.script.faults }) left.output.bytes left.output.script.faults
          c.serve_connection-served.result
          (record { of = c.serve_connection-served.ensures.of; base = c.serve_connection-served.ensures.base; alone = c.serve_connection-served.ensures.alone })
          (c.new-input.ensures.left ∙ ap Some (c.in-Ok.ensures ∙ c.as_slice.ensures)) c.new-output.ensures.held
          (ap (λ s. s.faults) c.new-input.ensures.script) (ap (λ s. s.faults) c.new-output.ensures.script)
          c.serve_connection-served.ensures.ends (c.reply_of-reply.ensures left.output.bytes refl),
    )

pub returns-clause-cause : goal.returns-clause-cause
returns-clause-cause g c =
    never_failed _ c.reply_of-reply.result c.serve_connection-served.result c.serve_connection-served.new.output.bytes
    (c.reply_of-reply.ensures c.serve_connection-served.new.output.bytes refl)
