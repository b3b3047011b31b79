use Rattle.std.proofs.Common.{[], ◌∙◌, refl, inl, inr}
use Rattle.upstreams.proofs.MoveLemmas.{Connects_open}
use Rattle.proxy_core.specs.declared.refusals.Refusal.TheVariants.{Memory, Link}
use Rattle.proxy_core.proofs.EndLemmas.{ends_as}
use Rattle.proxy_core.proofs.passes.pass_on.Goals as goal

pub returns-in_default-clause-ends : goal.returns-in_default-clause-ends
returns-in_default-clause-ends g c = ([], inr (record { cause = Memory; written = c.refuse.ensures.written; left = refl; kept = refl; why = inl (refl, refl) }))

pub returns-in-Err-clause-ends : goal.returns-in-Err-clause-ends
returns-in-Err-clause-ends g c = (
  [],
  inr (record {
    cause = Link;
    written = c.refuse-in-Err.ensures.written;
    left = refl;
    kept = refl;
    why = inr (refl, c.in-Err.ensures.err, c.in-Err.ensures.cause);
  }),
)

pub returns-clause-ends : goal.returns-clause-ends
returns-clause-ends g c =
    let ends = c.pass_linked-outcome.ensures.ends in (
      ends.0,
      inl (record {
        linked = g.U.Upstream.told c.connect.new.self;
        links = g.U.Upstream.faults c.connect.new.self;
        moved = g.U.Upstream.told c.pass_linked-outcome.new.up;
        connects = c.in-Ok-connect.ensures.ok;
        counted = c.connect.ensures.counted;
        finishes = c.finish.ensures.finished;
        ends = ends_as _ _ _ _ _ _ _ _ _ _ _ _ _ _ _ _ c.as_bytes.ensures (c.as_slice.ensures ∙ c.in-Ok.ensures) c.finish.ensures.counted ends.1;
      }),
    )

pub pass_linked-outcome-requires-clause-open : goal.pass_linked-outcome-requires-clause-open
pass_linked-outcome-requires-clause-open g c = Connects_open _ _ c.args.target.now c.in-Ok-connect.ensures.ok
