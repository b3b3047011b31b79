use Rattle.std.proofs.Common.{[], ◌++◌, Err, refl, ap, sym, ◌∙◌, inl, inr}
use Rattle.http_wire.specs.declared.head.Head.{Head}
use Rattle.hub_link.proofs.AskLemmas.{no_ask}
use Rattle.proxy_wire.specs.Framing.{request_framing}
use Rattle.proxy_core.specs.Passes.{Place}
use Rattle.proxy_core.proofs.ForwardLemmas.{took_from}
use Rattle.carries.specs.Carries.{Sides}
use Rattle.guard.proofs.GuardLemmas.{judges_of}
use Rattle.guard.proofs.CarryingLemmas.{carry_of}
use Rattle.guard.proofs.carrying.guard_carry_kept.Goals as goal

pub returns-in-Err-clause-ends : goal.returns-in-Err-clause-ends
returns-in-Err-clause-ends g c =
    let e = c.in-Err.ensures.err in (
      [],
      c.read_head.new.kept,
      no_ask g.H.HubLink.asked g.H.HubLink.does c.args.link.now,
      inl (
        c.stopped.result,
        c.one_of.ensures,
        inl (record {
          unasked = refl;
          error = c.in-Err.e;
          took = took_from _ _ c.args.rooms.now.kept _ c.requires e.0;
          refused = e.1;
          told = refl;
          stopped = c.stopped.ensures.stopped;
          cause = λ is. c.in-Err.ensures.cause (ap Err is);
        }),
      ),
    )

pub returns-in-Err-request_framing-clause-ends : goal.returns-in-Err-request_framing-clause-ends
returns-in-Err-request_framing-clause-ends g c =
    let read = c.in-Ok.ensures.ok in (
      [],
      c.read_head.new.kept,
      no_ask g.H.HubLink.asked g.H.HubLink.does c.args.link.now,
      inl (
        c.refuse.result,
        c.one_of-in-Err-request_framing.ensures,
        inr (record {
          unasked = refl;
          head = read.0;
          is = read.1;
          took = took_from _ _ c.args.rooms.now.kept _ c.requires read.3;
          told = refl;
          error = c.in-Err-request_framing.e;
          why = sym (c.in-Err-request_framing.ensures.framing ∙ ap (λ (h : Head). request_framing h.headers) read.2);
          written = rw c.wire_refusal.ensures at c.refuse.ensures.written;
        }),
      ),
    )

pub returns-clause-ends : goal.returns-clause-ends
returns-clause-ends g c =
    let read = c.in-Ok.ensures.ok in
    let judged = c.judge-verdict.ensures.judges in
    let followed = c.carry_follow.ensures.ends in
    let sides : g.row.U-Reads.Denot → g.row.U-Writes.Denot → Sides = λ reads writes. record {
      left = g.U.Reads.Source.left reads;
      held = g.U.Writes.Sink.held writes;
      reads = g.U.Reads.Source.faults reads;
      writes = g.U.Writes.Sink.faults writes;
      upper_shut = g.U.Writes.Sink.closed writes;
      lower_shut = g.O.Sink.closed c.carry_follow.new.output;
    } in
    let old : Place = record {
      left = g.I.Source.left c.read_head.new.input;
      kept = c.read_head.new.kept;
      held = g.O.Sink.held c.args.output.now;
      told = g.U.Upstream.told c.args.up.now;
      reads = g.I.Source.faults c.read_head.new.input;
      links = g.U.Upstream.faults c.args.up.now;
      writes = g.O.Sink.faults c.args.output.now;
    } in
    let new : Place = record {
      left = g.I.Source.left c.carry_follow.new.input;
      kept = followed.0 ++ c.carry_follow.new.rooms.kept;
      held = g.O.Sink.held c.carry_follow.new.output;
      told = g.U.Upstream.told c.carry_follow.new.up;
      reads = g.I.Source.faults c.carry_follow.new.input;
      links = g.U.Upstream.faults c.carry_follow.new.up;
      writes = g.O.Sink.faults c.carry_follow.new.output;
    } in (
      judged.0,
      followed.0 ++ c.carry_follow.new.rooms.kept,
      judged.1,
      inr (record {
        head = read.0;
        is = read.1;
        left = g.I.Source.left c.read_head.new.input;
        kept = c.read_head.new.kept;
        reads = g.I.Source.faults c.read_head.new.input;
        framing = c.in-Ok-request_framing.framing;
        verdict = c.judge-verdict.result;
        took = took_from _ _ c.args.rooms.now.kept _ c.requires read.3;
        counted = c.read_head.ensures.counted;
        framed = sym (c.in-Ok-request_framing.ensures.framing ∙ ap (λ (h : Head). request_framing h.headers) read.2);
        judged = judges_of c.in-Ok.head read.0 _ _ _ _ _ read.2 judged.2;
        follows = carry_of sides c.in-Ok.head read.0 c.judge-verdict.result c.in-Ok-request_framing.framing c.args.target.now old new
            c.carry_follow.result read.2 followed.1;
      }),
    )
