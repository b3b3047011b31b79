use Rattle.std.proofs.Common.{◌≡◌, ◌∙◌, ap, sym}
use Rattle.std.specs.Map.{keys_of}
use Rattle.std.specs.List.{filter}
use Rattle.std.specs.Ordering.{eq_by_cmp, is_eq}
use Rattle.keyed_rows.proofs.Finite.{keys_row}
use Rattle.row_indexes.proofs.Walked.{started, walked_out, walked_through, told_apart}
use Rattle.row_indexes.proofs.grouped.keys_of.Goals.{in-None, in-Some+then-is_ne}
use Rattle.row_indexes.proofs.grouped.keys_of.Goals as goal

pub loop-key-init : goal.loop-key-init
loop-key-init g c =
    started g.met.O.Ord.total g.met.K.Key.exact g.K.Grouped.owner_of g.met.K.Grouped.together c.args.owner.now c.args.first c.requires.own c.requires.first g.met.O.Key.exact c.args.rows.now c.range-key-items.ensures.ordered
    _ _ c.new-keys.ensures.items (c.into_iter-key-iterator.ensures.into_iter_gives ∙ c.range-key-items.ensures.between tt)

pub returns : goal.returns
returns g c =
    (elim c.match-next.branch as (λ _. c.loop-key.keys.items ≡ filter (λ key. eq_by_cmp g.O.Ord.cmp (g.K.Grouped.owner_of key) c.args.owner.now) (keys_of c.args.rows.now.entries)) [
      | in-None w ↦ walked_through (λ key. eq_by_cmp g.O.Ord.cmp (g.K.Grouped.owner_of key) c.args.owner.now) _ _ _ w.in-None.ensures.steps.0 c.loop-key.invariant
      | in-Some+then-is_ne w ↦ walked_out (λ key. eq_by_cmp g.O.Ord.cmp (g.K.Grouped.owner_of key) c.args.owner.now) _ _ _ _ (w.in-Some.key.now, w.in-Some.field-0-1.now) w.in-Some.ensures.steps
          (ap (λ v. is_eq (g.O.Ord.cmp v c.args.owner.now)) (sym w.owner.ensures) ∙ ap is_eq (sym w.cmp.ensures) ∙ told_apart w.cmp.result (sym w.is_ne.ensures ∙ w.if-is_ne.true))
          c.loop-key.invariant
    ])
    ∙ ap (filter (λ key. eq_by_cmp g.O.Ord.cmp (g.K.Grouped.owner_of key) c.args.owner.now)) (sym (keys_row g.met.K.Ord.total c.args.rows.now c.range-key-items.ensures.ordered))
