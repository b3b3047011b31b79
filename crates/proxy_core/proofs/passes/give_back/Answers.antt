use Rattle.std.proofs.Common.{List, ℕ, ◌++◌, take, refl, sym, ap, ◌∙◌, subst}
use Rattle.hub_devices.specs.Streams.{Appends}
use Rattle.proxy_core.proofs.JoinLemmas.{back_joined, joined_cut}
use Rattle.proxy_core.proofs.passes.give_back.Goals as goal

pub returns-in-Err-clause-ends : goal.returns-in-Err-clause-ends
returns-in-Err-clause-ends g c =
    let e = c.in-Err.ensures.err in
    let n = c.first_bytes-count.result.0 in
    let behind : List ℕ = c.args.back.now in (
      e.0,
      e.1,
      refl,
      e.3,
      c.in-Err.ensures.cause,
      refl,
      joined_cut c.args.reply.now.text c.args.reply.now.framing c.first_bytes-count.result.1 behind e.0 e.1 n c.first_bytes-count.ensures.behind
          (ap (λ (x : List ℕ). x ++ take n behind) (sym c.as_slice.ensures) ∙ e.2),
    )

pub returns-clause-ends : goal.returns-clause-ends
returns-clause-ends g c =
    let gave = c.in-Ok.ensures.ok in
    let done = c.back_body.ensures.done in
    let n = c.first_bytes-count.result.0 in
    let behind : List ℕ = c.args.back.now in
    back_joined c.args.reply.now.text c.args.reply.now.framing c.first_bytes-count.result.1 n behind c.give_head.new.back done.0 done.1 done.2
    (g.O.Sink.held c.args.output.now) (g.O.Sink.held c.give_head.new.output) (g.O.Sink.held c.back_body.new.output)
    (g.U.Upstream.told c.args.up.now) (g.U.Upstream.told c.back_body.new.up) (g.U.Upstream.faults c.args.up.now) (g.U.Upstream.faults c.back_body.new.up)
    (g.O.Sink.faults c.args.output.now) (g.O.Sink.faults c.give_head.new.output) (g.O.Sink.faults c.back_body.new.output)
    c.first_bytes-count.ensures.behind gave.0
    (subst (λ (x : List ℕ). Appends (g.O.Sink.held c.args.output.now) (x ++ take n behind) (g.O.Sink.held c.give_head.new.output)) c.as_slice.ensures gave.1)
    done.3 done.4 done.5 done.6 c.back_body.ensures.receives c.give_head.ensures.counted c.back_body.ensures.writes

pub back_body-requires-clause-begun : goal.back_body-requires-clause-begun
back_body-requires-clause-begun g c =
    let n = c.first_bytes-count.result.0 in
    (c.args.reply.now.framing, take n c.args.back.now, c.first_bytes-count.ensures.behind)
