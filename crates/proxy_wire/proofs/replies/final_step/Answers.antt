use Rattle.std.proofs.Common.{ℕ, subst, sym, ap, ◌∙◌}
use Rattle.proxy_wire.specs.Heads.{is_switched}
use Rattle.proxy_wire.specs.Replies.{IsFinal}
use Rattle.proxy_wire.proofs.StepLemmas.{head_at, framed_as, passed_as}
use Rattle.proxy_wire.proofs.replies.final_step.Goals as goal

pub returns-in_ok-text-in-Some : goal.returns-in_ok-text-in-Some
returns-in_ok-text-in-Some c =
    let h = c.requires.head.0 in
    let at = c.requires.head.1 in (
      h,
      head_at c.args.bytes.now c.args.spans.now c.args.r h c.requires.within c.requires.room at,
      subst (λ (s : ℕ). IsFinal c.args.upgrade s) at.code c.requires.kind,
      sym (framed_as c.args.method.now c.args.bytes.now c.args.spans.now c.args.r h at) ∙ sym c.in-Some.ensures,
      c.in_ok-text-in-Some.ensures ∙ passed_as c.args.bytes.now c.args.spans.now c.args.r h at,
      c.is_switched-switched.ensures ∙ ap is_switched at.code,
    )

pub returns-in-None : goal.returns-in-None
returns-in-None c =
    let h = c.requires.head.0 in
    let at = c.requires.head.1 in (
      h,
      c.args.r.len,
      head_at c.args.bytes.now c.args.spans.now c.args.r h c.requires.within c.requires.room at,
      subst (λ (s : ℕ). IsFinal c.args.upgrade s) at.code c.requires.kind,
      sym (framed_as c.args.method.now c.args.bytes.now c.args.spans.now c.args.r h at) ∙ sym c.in-None.ensures,
    )
