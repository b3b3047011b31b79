use Rattle.std.proofs.Common.{◌≡◌, ◌+◌, ◌++◌, List, ap, sym, ◌∙◌, take}
use Rattle.std.specs.List.{flat_map}
use Rattle.scope_names.specs.declared.action.Action.{Action}
use Rattle.scope_names.specs.Actions.{row_of}
use Rattle.scope_names.specs.Coverage.{declared_by}
use Rattle.scope_names.proofs.Growth.{declared_more, declared_none, declared_some}
use Rattle.scope_names.proofs.coverage.push_subscopes.Goals.{then-eq+in_ok-push_names, else-eq}
use Rattle.scope_names.proofs.coverage.push_subscopes.Goals as goal

pub loop-row-preserved : goal.loop-row-preserved
loop-row-preserved c =
    let a : Action = c.args.action.now in
    let base : List Action = c.args.pending.now.items ++ (row_of a).subscopes in
    let more : c.loop-row.pending.items ++ declared_by a c.row-item.result ≡ base ++ flat_map (declared_by a) (take (c.loop-row.row-index + 1) c.args.rows.now)
    = ap (λ (ys : List Action). ys ++ declared_by a c.row-item.result) c.loop-row.invariant ∙ declared_more a base c.args.rows.now c.loop-row.row-index c.row-item.result c.loop-row-test.true c.row-item.is in
    elim c.if-eq.branch as (λ _. c.if-eq.pending.items ≡ base ++ flat_map (declared_by a) (take (c.loop-row.row-index + 1) c.args.rows.now)) [
      | then-eq+in_ok-push_names w ↦ ap (λ v. v.items) w.pending-is ∙ w.in_ok-push_names.ensures ∙ ap (λ (ys : List Action). c.loop-row.pending.items ++ ys) (declared_some a c.row-item.result w.as_slice.result.now (sym c.eq.ensures ∙ w.if-eq.true) w.as_slice.ensures) ∙ more
      | else-eq w ↦ ap (λ v. v.items) w.pending-is ∙ declared_none a c.row-item.result c.loop-row.pending.items (sym c.eq.ensures ∙ w.if-eq.false) ∙ more
    ]
