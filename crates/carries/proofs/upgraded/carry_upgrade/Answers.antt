use Rattle.std.proofs.Common.{[], ◌++◌, ◌∙◌, true, refl, sym, inl, inr}
use Rattle.upstreams.proofs.MoveLemmas.{Connects_open}
use Rattle.proxy_core.specs.declared.refusals.Refusal.TheVariants.{Memory, Link}
use Rattle.proxy_wire.specs.Heads.{request_text}
use Rattle.carries.specs.Carries.{upgrade_of}
use Rattle.proxy_core.specs.Telling.{place_of}
use Rattle.carries.specs.Telling.{sides_of}
use Rattle.carries.proofs.CarryLemmas.{all_taken, link_as, carried_through}
use Rattle.carries.proofs.upgraded.carry_upgrade.Goals as goal

pub returns-in_default-clause-ends : goal.returns-in_default-clause-ends
returns-in_default-clause-ends g c = (
  [],
  inl (
    c.refuse.result,
    c.one_of.ensures,
    inr (record { cause = Memory; written = c.refuse.ensures.written; left = refl; kept = refl; why = inl (refl, refl) }),
  ),
)

pub returns-in_default-take_kept-clause-ends : goal.returns-in_default-take_kept-clause-ends
returns-in_default-take_kept-clause-ends g c =
    let e = c.in_default-take_kept.ensures.err in (
      e.0,
      inl (
        c.refuse-in_default-take_kept.result,
        c.one_of-in_default-take_kept.ensures,
        inr (record { cause = Memory; written = c.refuse-in_default-take_kept.ensures.written; left = refl; kept = e.1; why = inl (refl, refl) }),
      ),
    )

pub returns-in-Err-clause-ends : goal.returns-in-Err-clause-ends
returns-in-Err-clause-ends g c =
    let all = c.in-Ok-take_kept.ensures.ok in (
      c.in-Ok-take_kept.first,
      inl (
        c.refuse-in-Err.result,
        c.one_of-in-Err.ensures,
        inr (record {
          cause = Link;
          written = c.refuse-in-Err.ensures.written;
          left = refl;
          kept = all_taken c.in-Ok-take_kept.first c.args.rooms.now.kept c.take_kept.new.kept all.0 all.1;
          why = inr (refl, c.in-Err.ensures.err, c.in-Err.ensures.cause);
        }),
      ),
    )

pub returns-clause-ends : goal.returns-clause-ends
returns-clause-ends g c =
    let all = c.in-Ok-take_kept.ensures.ok in
    let first = c.in-Ok-take_kept.first in
    let sides = sides_of g.U.Reads.Source g.U.Writes.Sink (g.O.Sink.closed c.carry_linked-outcome.new.output) in
    let old = place_of g.I.Source g.O.Sink g.U.Upstream c.args.input.now c.args.rooms.now.kept c.args.output.now c.args.up.now in
    let new = place_of g.I.Source g.O.Sink g.U.Upstream c.carry_linked-outcome.new.input (first ++ c.take_kept.new.kept) c.carry_linked-outcome.new.output c.finish.new.self in
    let linked = g.U.Upstream.told c.connect.new.self in
    let moved = g.U.Upstream.told c.carry_linked-outcome.new.up in
    let links = g.U.Upstream.faults c.connect.new.self in (
      first,
      carried_through sides (upgrade_of c.args.head.now.method (request_text true c.args.head.now)) c.args.target.now old new linked moved links
          c.carry_linked-outcome.result c.in-Ok-connect.ensures.ok c.connect.ensures.counted c.finish.ensures.finished
          (link_as sides c.as_bytes.result.now c.args.head.now.method c.as_slice.result.now (request_text true c.args.head.now) c.as_slice-2.result.now c.args.rooms.now.kept
          (first ++ c.take_kept.new.kept) (g.U.Upstream.faults c.carry_linked-outcome.new.up) (g.U.Upstream.faults c.finish.new.self)
          (record old { told = linked; links = links }) (record new { told = moved }) c.carry_linked-outcome.result
          c.as_bytes.ensures (c.as_slice.ensures ∙ c.in-Ok.ensures) (c.as_slice-2.ensures ∙ all.0)
          (c.as_slice-2.ensures ∙ (all.0 ∙ sym (all_taken first c.args.rooms.now.kept c.take_kept.new.kept all.0 all.1))) c.finish.ensures.counted
          c.carry_linked-outcome.ensures.ends),
    )

pub carry_linked-outcome-requires-clause-open : goal.carry_linked-outcome-requires-clause-open
carry_linked-outcome-requires-clause-open g c = λ lives outlived. Connects_open _ _ c.args.target.now c.in-Ok-connect.ensures.ok
