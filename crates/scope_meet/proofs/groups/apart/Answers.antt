use Rattle.std.proofs.Common.{◌≡◌, ◌+◌, ◌++◌, ℕ, List, Bool, not, ap, drop, sym, ◌∙◌}
use Rattle.scope_meet.specs.Meets.{is_among}
use Rattle.scope_meet.proofs.GroupLists.{apart}
use Rattle.scope_meet.proofs.Steps.{all_sifted, dropped, kept}
use Rattle.scope_meet.proofs.groups.apart.Goals.{then-not-has_group+in_ok-push, else-not-has_group}
use Rattle.scope_meet.proofs.groups.apart.Goals as goal

pub loop-group-init : goal.loop-group-init
loop-group-init c = ap (λ own. own ++ apart c.args.ours.now c.args.theirs.now) c.new-own.ensures.items

pub loop-group-preserved : goal.loop-group-preserved
loop-group-preserved c =
    let lacks : List ℕ → Bool = λ g. not (is_among c.args.theirs.now g) in
    let rest : List (List ℕ) = apart (drop (c.loop-group.group-index + 1) c.args.ours.now) c.args.theirs.now in
    elim c.if-not-has_group.branch as (λ _. c.if-not-has_group.own.items ++ rest ≡ apart c.args.ours.now c.args.theirs.now) [
      | then-not-has_group+in_ok-push w ↦ ap (λ own. own.items ++ rest) w.own-is ∙ ap (λ own. own ++ rest) w.in_ok-push.ensures.items
          ∙ kept lacks c.args.ours.now c.loop-group.group-index c.loop-group.own.items _ c.loop-group.invariant c.group-item.result c.loop-group-test.true c.group-item.is (ap not (sym c.has_group.ensures ∙ w.if-not-has_group.true))
      | else-not-has_group w ↦ ap (λ own. own.items ++ rest) w.own-is
          ∙ dropped lacks c.args.ours.now c.loop-group.group-index c.loop-group.own.items _ c.loop-group.invariant c.group-item.result c.loop-group-test.true c.group-item.is (ap not (sym c.has_group.ensures ∙ w.if-not-has_group.false))
    ]

pub returns : goal.returns
returns c = all_sifted (λ g. not (is_among c.args.theirs.now g)) c.args.ours.now c.loop-group.group-index c.loop-group.own.items _ c.loop-group.invariant c.loop-group-test.false
