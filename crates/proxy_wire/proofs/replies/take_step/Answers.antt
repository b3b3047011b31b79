use Rattle.std.proofs.Common.{ℕ, subst, sym, ◌∙◌}
use Rattle.proxy_wire.specs.Replies.{IsSkipped}
use Rattle.proxy_wire.proofs.StepLemmas.{head_at, switched}
use Rattle.proxy_wire.proofs.replies.take_step.Goals as goal

pub returns-in-Skipped : goal.returns-in-Skipped
returns-in-Skipped c =
    let h = c.requires.head.0 in
    let at = c.requires.head.1 in (
      h,
      head_at c.args.bytes.now c.args.spans.now c.args.r h c.requires.within c.requires.room at,
      subst (λ (s : ℕ). IsSkipped s) at.code c.in-Skipped.ensures,
    )

pub returns-in-Neither : goal.returns-in-Neither
returns-in-Neither c =
    let at = c.requires.head.1 in
    switched c.args.upgrade c.args.bytes.now c.requires.head.0 _ at.reads (sym at.code ∙ c.in-Neither.ensures.0) c.in-Neither.ensures.1
