use Rattle.std.proofs.Common.{[], ◌++◌, Err, refl, ap, sym, ◌∙◌, inl, inr}
use Rattle.http_wire.specs.declared.head.Head.{Head}
use Rattle.hub_link.proofs.AskLemmas.{no_ask}
use Rattle.proxy_wire.specs.Framing.{request_framing}
use Rattle.proxy_core.specs.Passes.{Place}
use Rattle.proxy_core.proofs.ForwardLemmas.{took_from}
use Rattle.carries.specs.Carries.{Sides}
use Rattle.guard_login.proofs.EntryLemmas.{signed_from, enters_of}
use Rattle.guard_login.proofs.entries.enter_kept.Goals as goal

pub returns-in-Err-clause-ends : goal.returns-in-Err-clause-ends
returns-in-Err-clause-ends g c =
    let e = c.in-Err.ensures.err in (
      [],
      c.read_head.new.kept,
      no_ask g.H.HubLink.asked g.H.HubLink.does c.args.link.now,
      inl (
        c.stopped.result,
        inl (record {
          unasked = refl;
          error = c.in-Err.e;
          took = took_from _ _ c.args.rooms.now.kept _ c.requires e.0;
          refused = e.1;
          told = refl;
          stopped = c.stopped.ensures.stopped;
          cause = λ is. c.in-Err.ensures.cause (ap Err is);
        }),
        signed_from c.signing.result c.stopped.result c.signed_as.result c.signed_as.ensures c.signing.ensures,
        refl,
      ),
    )

pub returns-in-Err-request_framing-clause-ends : goal.returns-in-Err-request_framing-clause-ends
returns-in-Err-request_framing-clause-ends g c =
    let read = c.in-Ok.ensures.ok in (
      [],
      c.read_head.new.kept,
      no_ask g.H.HubLink.asked g.H.HubLink.does c.args.link.now,
      inl (
        c.refuse.result,
        inr (record {
          unasked = refl;
          head = read.0;
          is = read.1;
          took = took_from _ _ c.args.rooms.now.kept _ c.requires read.3;
          told = refl;
          error = c.in-Err-request_framing.e;
          why = sym (c.in-Err-request_framing.ensures.framing ∙ ap (λ (h : Head). request_framing h.headers) read.2);
          written = rw c.wire_refusal.ensures at c.refuse.ensures.written;
        }),
        signed_from c.signing-in-Err-request_framing.result c.refuse.result c.signed_as-in-Err-request_framing.result
            c.signed_as-in-Err-request_framing.ensures c.signing-in-Err-request_framing.ensures,
        refl,
      ),
    )

pub returns-clause-ends : goal.returns-clause-ends
returns-clause-ends g c =
    let read = c.in-Ok.ensures.ok in
    let entered = c.enter.ensures.ends in
    let sides : g.row.U-Reads.Denot → g.row.U-Writes.Denot → Sides = λ reads writes. record {
      left = g.U.Reads.Source.left reads;
      held = g.U.Writes.Sink.held writes;
      reads = g.U.Reads.Source.faults reads;
      writes = g.U.Writes.Sink.faults writes;
      upper_shut = g.U.Writes.Sink.closed writes;
      lower_shut = g.O.Sink.closed c.enter.new.output;
    } in
    let old : Place = record {
      left = g.I.Source.left c.read_head.new.input;
      kept = c.read_head.new.kept;
      held = g.O.Sink.held c.args.output.now;
      told = g.U.Upstream.told c.args.up.now;
      reads = g.I.Source.faults c.read_head.new.input;
      links = g.U.Upstream.faults c.args.up.now;
      writes = g.O.Sink.faults c.args.output.now;
    } in
    let new : Place = record {
      left = g.I.Source.left c.enter.new.input;
      kept = entered.1 ++ c.enter.new.rooms.kept;
      held = g.O.Sink.held c.enter.new.output;
      told = g.U.Upstream.told c.enter.new.up;
      reads = g.I.Source.faults c.enter.new.input;
      links = g.U.Upstream.faults c.enter.new.up;
      writes = g.O.Sink.faults c.enter.new.output;
    } in (
      entered.0,
      entered.1 ++ c.enter.new.rooms.kept,
      entered.2,
      inr (record {
        head = read.0;
        is = read.1;
        left = g.I.Source.left c.read_head.new.input;
        kept = c.read_head.new.kept;
        reads = g.I.Source.faults c.read_head.new.input;
        framing = c.in-Ok-request_framing.framing;
        took = took_from _ _ c.args.rooms.now.kept _ c.requires read.3;
        counted = c.read_head.ensures.counted;
        framed = sym (c.in-Ok-request_framing.ensures.framing ∙ ap (λ (h : Head). request_framing h.headers) read.2);
        enters = enters_of g.R.Random.left g.R.Random.faults c.args.random.now c.enter.new.random sides c.args.door.now c.in-Ok.head read.0
            c.in-Ok-request_framing.framing entered.0 (g.H.HubLink.faults c.args.link.now) (g.H.HubLink.faults c.enter.new.link) old new
            c.enter.result read.2 entered.3;
      }),
    )
