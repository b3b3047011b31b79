use Rattle.std.proofs.Common.{◌∙◌, sym, ap}
use Rattle.keyed_rows.specs.Sorted as spec
use Rattle.keyed_rows.proofs.KeyLists.{in_order_sorted}
use Rattle.keyed_rows.proofs.sorted.Sorted.of_ordered.Goals as goal

pub invariant_of-result : goal.invariant_of-result
invariant_of-result g c =
    in_order_sorted g.met.K.Ord.total c.args.keys.items (ap (spec.is_in_order g.K.Ord.cmp) (sym c.as_slice.ensures.value) ∙ sym c.is_in_order.ensures ∙ c.if-is_in_order.true)
