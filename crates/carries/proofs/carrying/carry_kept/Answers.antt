use Rattle.std.proofs.Common.{◌++◌, Err, refl, ap, subst, inl, inr}
use Rattle.http_wire.specs.declared.head.Head.{Head}
use Rattle.proxy_core.specs.Forward.{IsUnchosen}
use Rattle.proxy_core.proofs.ForwardLemmas.{took_from, chosen_of}
use Rattle.proxy_core.specs.Telling.{place_of}
use Rattle.carries.specs.Telling.{sides_of}
use Rattle.carries.proofs.CarryLemmas.{carried_of}
use Rattle.carries.proofs.carrying.carry_kept.Goals as goal

pub returns-in-Err-clause-ends : goal.returns-in-Err-clause-ends
returns-in-Err-clause-ends g c =
    let e = c.in-Err.ensures.err in (
      c.read_head.new.kept,
      inl (
        c.stopped.result,
        c.one_of.ensures,
        inl (record {
          error = c.in-Err.e;
          took = took_from _ _ c.args.rooms.now.kept _ c.requires e.0;
          refused = e.1;
          told = refl;
          same = refl;
          stopped = c.stopped.ensures.stopped;
          cause = λ is. c.in-Err.ensures.cause (ap Err is);
        }),
      ),
    )

pub returns-in-Err-choose-clause-ends : goal.returns-in-Err-choose-clause-ends
returns-in-Err-choose-clause-ends g c =
    let read = c.in-Ok.ensures.ok in (
      c.read_head.new.kept,
      inl (
        c.refuse.result,
        c.one_of-in-Err-choose.ensures,
        inr (record {
          head = read.0;
          is = read.1;
          took = took_from _ _ c.args.rooms.now.kept _ c.requires read.3;
          told = refl;
          refused = c.in-Err-choose.refusal;
          why = subst (λ (h : Head). IsUnchosen g.L.Lookup.found h c.args.now c.args.routes.now c.choose.new.routes c.in-Err-choose.refusal) read.2 c.in-Err-choose.ensures.err;
          written = c.refuse.ensures.written;
        }),
      ),
    )

pub returns-clause-ends : goal.returns-clause-ends
returns-clause-ends g c =
    let read = c.in-Ok.ensures.ok in
    let carried = c.carry.ensures.ends in
    let chosen = c.in-Ok-choose.ensures.ok in
    let sides = sides_of g.U.Reads.Source g.U.Writes.Sink (g.O.Sink.closed c.carry.new.output) in
    let old = place_of g.I.Source g.O.Sink g.U.Upstream c.read_head.new.input c.read_head.new.kept c.args.output.now c.args.up.now in
    let new = place_of g.I.Source g.O.Sink g.U.Upstream c.carry.new.input (carried.0 ++ c.carry.new.rooms.kept) c.carry.new.output c.carry.new.self in (
      carried.0 ++ c.carry.new.rooms.kept,
      inr (record {
        head = read.0;
        is = read.1;
        left = g.I.Source.left c.read_head.new.input;
        kept = c.read_head.new.kept;
        reads = g.I.Source.faults c.read_head.new.input;
        framing = c.in-Ok-choose.choice.framing;
        target = c.in-Ok-choose.choice.target;
        took = took_from _ _ c.args.rooms.now.kept _ c.requires read.3;
        counted = c.read_head.ensures.counted;
        chosen = chosen_of g.L.Lookup.found c.in-Ok.head read.0 c.args.now c.args.routes.now c.choose.new.routes c.in-Ok-choose.choice.framing
            c.in-Ok-choose.choice.target read.2 chosen.0;
        carried = carried_of sides c.in-Ok.head read.0 c.in-Ok-choose.choice.framing c.in-Ok-choose.choice.target old new c.carry.result read.2 carried.1;
      }),
    )
