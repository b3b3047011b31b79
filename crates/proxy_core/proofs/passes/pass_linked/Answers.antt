use Rattle.std.proofs.Common.{◌++◌, List, ℕ, false, subst, refl}
use Rattle.upstreams.proofs.MoveLemmas.{Moves_open}
use Rattle.proxy_core.specs.Passes.{Place, Going, BackEnds}
use Rattle.proxy_core.proofs.EndLemmas.{ends_back, ends_refused, took_in_front, no_switch}
use Rattle.proxy_core.proofs.passes.pass_linked.Goals as goal

pub returns-in-Ok-clause-ends : goal.returns-in-Ok-clause-ends
returns-in-Ok-clause-ends g c =
    let x = c.in-Ok.ensures.ok in
    let rest : List ℕ = c.exchange.new.window in
    let q : Going = record { upgrade = false; method = c.args.method.now; text = c.args.text.now; framing = c.args.framing } in
    let old : Place = record {
      left = g.I.Source.left c.args.input.now;
      kept = c.args.rooms.now.kept;
      held = g.O.Sink.held c.args.output.now;
      told = g.U.Upstream.told c.args.up.now;
      reads = g.I.Source.faults c.args.input.now;
      links = g.U.Upstream.faults c.args.up.now;
      writes = g.O.Sink.faults c.args.output.now;
    } in
    let mid : Place = record {
      left = g.I.Source.left c.exchange.new.input;
      kept = rest ++ c.exchange.new.kept;
      held = g.O.Sink.held c.args.output.now;
      told = g.U.Upstream.told c.exchange.new.up;
      reads = g.I.Source.faults c.exchange.new.input;
      links = g.U.Upstream.faults c.exchange.new.up;
      writes = g.O.Sink.faults c.args.output.now;
    } in
    let new : Place = record {
      left = g.I.Source.left c.exchange.new.input;
      kept = rest ++ c.exchange.new.kept;
      held = g.O.Sink.held c.give_back.new.output;
      told = g.U.Upstream.told c.give_back.new.up;
      reads = g.I.Source.faults c.exchange.new.input;
      links = g.U.Upstream.faults c.give_back.new.up;
      writes = g.O.Sink.faults c.give_back.new.output;
    } in (
      rest,
      ends_back q old mid new x.0 x.1 x.2 c.exchange.new.back x.3 c.in-Ok.reply.framing c.give_back.result
          (took_in_front old.left mid.left c.clear.new.self old.kept (x.0 ++ mid.kept) c.clear.ensures x.4, x.5) x.6 x.8 (no_switch _ x.8.final) refl refl refl refl
          c.exchange.ensures.links c.give_back.ensures.links c.give_back.ensures.writes
          (subst (λ (t : List ℕ). BackEnds t c.in-Ok.reply.framing c.exchange.new.back mid.held new.held mid.told new.told mid.links new.links mid.writes new.writes c.give_back.result)
          x.7 c.give_back.ensures.ends),
    )

pub returns-in-Cut-clause-ends : goal.returns-in-Cut-clause-ends
returns-in-Cut-clause-ends g c =
    let e = rw c.in-Cut.is at c.in-Err.ensures.err in (
      c.exchange.new.window,
      (
        e.0,
        e.1,
        e.2,
        (
          took_in_front (g.I.Source.left c.args.input.now) (g.I.Source.left c.exchange.new.input) c.clear.new.self c.args.rooms.now.kept
              (e.0 ++ (c.exchange.new.window ++ c.exchange.new.kept)) c.clear.ensures e.3,
          e.4,
        ),
        e.5.0,
        e.5.1,
        refl,
      ),
    )

pub returns-in-ReadFault-clause-ends : goal.returns-in-ReadFault-clause-ends
returns-in-ReadFault-clause-ends g c =
    let e = rw c.in-ReadFault.is at c.in-Err.ensures.err in (
      c.exchange.new.window,
      (
        e.0,
        e.1,
        e.2,
        (
          took_in_front (g.I.Source.left c.args.input.now) (g.I.Source.left c.exchange.new.input) c.clear.new.self c.args.rooms.now.kept
              (e.0 ++ (c.exchange.new.window ++ c.exchange.new.kept)) c.clear.ensures e.3,
          e.4,
        ),
        e.5.0,
        e.5.1,
        refl,
        refl,
      ),
    )

pub returns-in-Refused-clause-ends : goal.returns-in-Refused-clause-ends
returns-in-Refused-clause-ends g c =
    let e = rw c.in-Refused.is at c.in-Err.ensures.err in
    let rest : List ℕ = c.exchange.new.window in (
      rest,
      ends_refused
          (record { upgrade = false; method = c.args.method.now; text = c.args.text.now; framing = c.args.framing })
          (record {
            left = g.I.Source.left c.args.input.now;
            kept = c.args.rooms.now.kept;
            held = g.O.Sink.held c.args.output.now;
            told = g.U.Upstream.told c.args.up.now;
            reads = g.I.Source.faults c.args.input.now;
            links = g.U.Upstream.faults c.args.up.now;
            writes = g.O.Sink.faults c.args.output.now;
          })
          (record {
            left = g.I.Source.left c.exchange.new.input;
            kept = rest ++ c.exchange.new.kept;
            held = g.O.Sink.held c.refuse.new.output;
            told = g.U.Upstream.told c.exchange.new.up;
            reads = g.I.Source.faults c.exchange.new.input;
            links = g.U.Upstream.faults c.exchange.new.up;
            writes = g.O.Sink.faults c.refuse.new.output;
          })
          c.in-Refused.refusal e.0 e.1 e.2 c.refuse.result c.refuse.ensures.written (
            took_in_front (g.I.Source.left c.args.input.now) (g.I.Source.left c.exchange.new.input) c.clear.new.self c.args.rooms.now.kept
                (e.0 ++ (c.exchange.new.window ++ c.exchange.new.kept)) c.clear.ensures e.3,
            e.4,
          ) e.5,
    )

pub give_back-requires : goal.give_back-requires
give_back-requires g c =
    let x = c.in-Ok.ensures.ok in
    Moves_open _ _ x.1 x.2 c.requires.open x.5
