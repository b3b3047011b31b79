use Rattle.std.proofs.Common.{◌++◌, false, Err, refl, ap, subst, inl, inr}
use Rattle.http_wire.specs.declared.head.Head.{Head}
use Rattle.proxy_core.specs.Forward.{IsUnchosen}
use Rattle.proxy_core.specs.Passes.{Place}
use Rattle.proxy_core.proofs.ForwardLemmas.{took_from, chosen_of, passed_of}
use Rattle.proxy_core.proofs.forward.forward_kept.Goals as goal

pub returns-in-Err-clause-ends : goal.returns-in-Err-clause-ends
returns-in-Err-clause-ends g c =
    let e = c.in-Err.ensures.err in (
      c.read_head.new.kept,
      inl (record {
        error = c.in-Err.e;
        took = took_from _ _ c.args.rooms.now.kept _ c.requires e.0;
        refused = e.1;
        told = refl;
        same = refl;
        stopped = c.stopped.ensures.stopped;
        cause = λ is. c.in-Err.ensures.cause (ap Err is);
      }),
    )

pub returns-in-Err-choose-clause-ends : goal.returns-in-Err-choose-clause-ends
returns-in-Err-choose-clause-ends g c =
    let read = c.in-Ok.ensures.ok in (
      c.read_head.new.kept,
      inr (inl (record {
        head = read.0;
        is = read.1;
        took = took_from _ _ c.args.rooms.now.kept _ c.requires read.3;
        told = refl;
        refused = c.in-Err-choose.refusal;
        why = subst (λ (h : Head). IsUnchosen g.L.Lookup.found h c.args.now c.args.routes.now c.choose.new.routes c.in-Err-choose.refusal) read.2 c.in-Err-choose.ensures.err;
        written = c.refuse.ensures.written;
      })),
    )

pub returns-clause-ends : goal.returns-clause-ends
returns-clause-ends g c =
    let read = c.in-Ok.ensures.ok in
    let passed = c.pass_on.ensures.ends in
    let chosen = c.in-Ok-choose.ensures.ok in
    let old : Place = record {
      left = g.I.Source.left c.read_head.new.input;
      kept = c.read_head.new.kept;
      held = g.O.Sink.held c.args.output.now;
      told = g.U.Upstream.told c.args.up.now;
      reads = g.I.Source.faults c.read_head.new.input;
      links = g.U.Upstream.faults c.args.up.now;
      writes = g.O.Sink.faults c.args.output.now;
    } in
    let new : Place = record {
      left = g.I.Source.left c.pass_on.new.input;
      kept = passed.0 ++ c.pass_on.new.rooms.kept;
      held = g.O.Sink.held c.pass_on.new.output;
      told = g.U.Upstream.told c.pass_on.new.up;
      reads = g.I.Source.faults c.pass_on.new.input;
      links = g.U.Upstream.faults c.pass_on.new.up;
      writes = g.O.Sink.faults c.pass_on.new.output;
    } in (
      passed.0 ++ c.pass_on.new.rooms.kept,
      inr (inr (record {
        head = read.0;
        is = read.1;
        left = g.I.Source.left c.read_head.new.input;
        kept = c.read_head.new.kept;
        reads = g.I.Source.faults c.read_head.new.input;
        framing = c.in-Ok-choose.choice.framing;
        target = c.in-Ok-choose.choice.target;
        took = took_from _ _ c.args.rooms.now.kept _ c.requires read.3;
        counted = c.read_head.ensures.counted;
        chosen = chosen_of g.L.Lookup.found c.in-Ok.head read.0 c.args.now c.args.routes.now c.choose.new.routes c.in-Ok-choose.choice.framing
            c.in-Ok-choose.choice.target read.2 chosen.0;
        passed = passed_of false c.in-Ok.head read.0 c.in-Ok-choose.choice.framing c.in-Ok-choose.choice.target old new c.pass_on.result read.2 passed.1;
      })),
    )
