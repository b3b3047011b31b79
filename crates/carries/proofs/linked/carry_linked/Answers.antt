use Rattle.std.proofs.Common.{List, ℕ, refl, sym, ◌∙◌, subst, inl, inr}
use Rattle.upstreams.proofs.MoveLemmas.{Moves_open}
use Rattle.proxy_core.specs.Passes.{BackEnds}
use Rattle.proxy_core.specs.Telling.{place_of}
use Rattle.carries.specs.Telling.{sides_of}
use Rattle.carries.proofs.CarryLemmas.{link_refused, link_back, link_switched}
use Rattle.carries.proofs.linked.carry_linked.Goals as goal

pub returns-in-Err-clause-ends : goal.returns-in-Err-clause-ends
returns-in-Err-clause-ends g c =
    let e = c.in-Err.ensures.err in
    inl (
      c.refuse.result,
      c.one_of.ensures,
      link_refused c.args.method.now c.args.text.now e.0 e.1
          (place_of g.I.Source g.O.Sink g.U.Upstream c.args.input.now c.args.first.now c.args.output.now c.args.up.now)
          (place_of g.I.Source g.O.Sink g.U.Upstream c.args.input.now c.args.first.now c.refuse.new.output c.ask_switch.new.up)
          c.in-Err.refusal c.refuse.result e.3 c.refuse.ensures.written refl refl e.2,
    )

pub returns-then-reply-clause-ends : goal.returns-then-reply-clause-ends
returns-then-reply-clause-ends g c =
    let x = c.in-Ok.ensures.ok in
    let sides = sides_of g.U.Reads.Source g.U.Writes.Sink (g.O.Sink.closed c.open.new.output) in
    let old = place_of g.I.Source g.O.Sink g.U.Upstream c.args.input.now c.args.first.now c.args.output.now c.args.up.now in
    let new = place_of g.I.Source g.O.Sink g.U.Upstream c.open.new.input c.args.first.now c.open.new.output c.open.new.up in
    link_switched sides c.args.method.now c.args.text.now x.0 c.ask_switch.new.back c.as_slice-then-reply.result.now c.as_slice.result.now old new
    (g.U.Upstream.told c.ask_switch.new.up) (g.U.Upstream.faults c.ask_switch.new.up) x.1 c.in-Ok.reply.framing c.open.result
    x.2 x.5 (sym x.4 ∙ c.if-reply.true) refl c.ask_switch.ensures.counted c.open.ensures.links (sym c.open.ensures.told)
    (c.as_slice.ensures ∙ x.3) c.as_slice-then-reply.ensures.value c.open.ensures.ends

pub returns-clause-ends : goal.returns-clause-ends
returns-clause-ends g c =
    let x = c.in-Ok.ensures.ok in
    let old = place_of g.I.Source g.O.Sink g.U.Upstream c.args.input.now c.args.first.now c.args.output.now c.args.up.now in
    let mid = place_of g.I.Source g.O.Sink g.U.Upstream c.args.input.now c.args.first.now c.args.output.now c.ask_switch.new.up in
    let new = place_of g.I.Source g.O.Sink g.U.Upstream c.args.input.now c.args.first.now c.give_back.new.output c.give_back.new.up in
    inl (
      c.give_back.result,
      c.one_of-2.ensures,
      link_back c.args.method.now c.args.text.now x.0 c.ask_switch.new.back old mid new x.1 c.in-Ok.reply.framing c.give_back.result
          x.2 x.5 (sym x.4 ∙ c.if-reply.false) refl refl refl refl refl refl c.ask_switch.ensures.counted c.give_back.ensures.links c.give_back.ensures.writes
          (subst (λ (t : List ℕ). BackEnds t c.in-Ok.reply.framing c.ask_switch.new.back mid.held new.held mid.told new.told mid.links new.links mid.writes new.writes c.give_back.result)
          x.3 c.give_back.ensures.ends),
    )

pub open-requires-clause-open : goal.open-requires-clause-open
open-requires-clause-open g c = λ lives outlived.
    let x = c.in-Ok.ensures.ok in
    Moves_open _ _ c.args.text.now x.0 c.requires.open x.2

pub give_back-requires : goal.give_back-requires
give_back-requires g c =
    let x = c.in-Ok.ensures.ok in
    Moves_open _ _ c.args.text.now x.0 c.requires.open x.2
