use Rattle.std.proofs.Common.{◌≡◌, ◌+◌, ◌++◌, List, ap, drop, map, sym, ◌∙◌}
use Rattle.scope_filters.specs.declared.filter.Filter.{Filter}
use Rattle.scope_filters.specs.declared.filter.Filter.TheVariants as Fi
use Rattle.scope_meet.specs.Meets.{is_among}
use Rattle.scope_meet.proofs.GroupLists.{shared}
use Rattle.scope_meet.proofs.Steps.{all_judged, passed_over, picked}
use Rattle.scope_meet.proofs.groups.shared.Goals.{then-has_group+in_ok-push, else-has_group}
use Rattle.scope_meet.proofs.groups.shared.Goals as goal

pub loop-group-init : goal.loop-group-init
loop-group-init c = ap (λ (met : List Filter). met ++ map Fi.Group (shared c.args.ours.now c.args.theirs.now)) c.new-met.ensures.items

pub loop-group-preserved : goal.loop-group-preserved
loop-group-preserved c =
    let rest : List Filter = map Fi.Group (shared (drop (c.loop-group.group-index + 1) c.args.ours.now) c.args.theirs.now) in
    elim c.if-has_group.branch as (λ _. c.if-has_group.met.items ++ rest ≡ map Fi.Group (shared c.args.ours.now c.args.theirs.now)) [
      | then-has_group+in_ok-push w ↦ ap (λ met. met.items ++ rest) w.met-is ∙ ap (λ met. met ++ rest) w.in_ok-push.ensures.items
          ∙ picked Fi.Group (is_among c.args.theirs.now) c.args.ours.now c.loop-group.group-index c.loop-group.met.items _ c.loop-group.invariant c.group-item.result c.loop-group-test.true c.group-item.is (sym c.has_group.ensures ∙ w.if-has_group.true)
      | else-has_group w ↦ ap (λ met. met.items ++ rest) w.met-is
          ∙ passed_over Fi.Group (is_among c.args.theirs.now) c.args.ours.now c.loop-group.group-index c.loop-group.met.items _ c.loop-group.invariant c.group-item.result c.loop-group-test.true c.group-item.is (sym c.has_group.ensures ∙ w.if-has_group.false)
    ]

pub returns : goal.returns
returns c = all_judged Fi.Group (is_among c.args.theirs.now) c.args.ours.now c.loop-group.group-index c.loop-group.met.items _ c.loop-group.invariant c.loop-group-test.false
