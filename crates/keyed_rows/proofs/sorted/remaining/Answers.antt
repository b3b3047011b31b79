use Rattle.std.proofs.Common.{◌≡◌, ◌+◌, ◌++◌, List, ap, drop, sym, ◌∙◌}
use Rattle.keyed_rows.specs.Sorted.{without_keys}
use Rattle.keyed_rows.proofs.Walks.{all_left, is_gone, is_left}
use Rattle.keyed_rows.proofs.sorted.remaining.Goals.{then-not-contains+in_ok-push, else-not-contains}
use Rattle.keyed_rows.proofs.sorted.remaining.Goals as goal

pub loop-key-init : goal.loop-key-init
loop-key-init g c = ap (λ (left : List g.row.K.Denot). left ++ without_keys g.K.Ord.cmp c.args.gone.now c.args.keys.now) c.new-left.ensures.items

pub loop-key-preserved : goal.loop-key-preserved
loop-key-preserved g c =
    let rest : List g.row.K.Denot = without_keys g.K.Ord.cmp c.args.gone.now (drop (c.loop-key.key-index + 1) c.args.keys.now) in
    elim c.if-not-contains.branch as (λ _. c.if-not-contains.left.items ++ rest ≡ without_keys g.K.Ord.cmp c.args.gone.now c.args.keys.now) [
      | then-not-contains+in_ok-push w ↦ ap (λ left. left.items ++ rest) w.left-is ∙ ap (λ left. left ++ rest) w.in_ok-push.ensures.items
          ∙ is_left g.K.Ord.cmp c.args.keys.now c.loop-key.key-index c.args.gone.now c.loop-key.left.items _ c.loop-key.invariant c.key-item.result c.loop-key-test.true c.key-item.is (sym c.contains.ensures ∙ w.if-not-contains.true)
      | else-not-contains w ↦ ap (λ left. left.items ++ rest) w.left-is
          ∙ is_gone g.K.Ord.cmp c.args.keys.now c.loop-key.key-index c.args.gone.now c.loop-key.left.items _ c.loop-key.invariant c.key-item.result c.loop-key-test.true c.key-item.is (sym c.contains.ensures ∙ w.if-not-contains.false)
    ]

pub returns : goal.returns
returns g c = all_left g.K.Ord.cmp c.args.keys.now c.loop-key.key-index c.args.gone.now c.loop-key.left.items _ c.loop-key.invariant c.loop-key-test.false
