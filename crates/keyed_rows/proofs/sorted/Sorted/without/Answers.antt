use Rattle.std.proofs.Common.{◌∙◌, sym, ap, subst}
use Rattle.std.specs.List.Sorted.{IsStrictlySortedBy}
use Rattle.keyed_rows.specs.Sorted.{without_keys, in_order}
use Rattle.keyed_rows.proofs.KeyLists.{less_in_order, without_sorted}
use Rattle.keyed_rows.proofs.sorted.Sorted.without.Goals as goal

pub invariant_of-result : goal.invariant_of-result
invariant_of-result g c =
    subst (IsStrictlySortedBy g.K.Ord.cmp) (sym (c.in_ok-items.ensures ∙ ap (without_keys g.K.Ord.cmp c.from_vec-gone.result) c.as_slice.ensures.value))
    (without_sorted g.met.K.Ord.total g.met.K.Key.exact c.from_vec-gone.result _ c.self.invariant)

pub returns : goal.returns
returns g c =
    c.in_ok-items.ensures
    ∙ ap (without_keys g.K.Ord.cmp c.from_vec-gone.result) (c.as_slice.ensures.value ∙ c.self.view_is)
    ∙ ap (λ gone. without_keys g.K.Ord.cmp gone c.args.self.now) (c.from_vec-gone.ensures ∙ ap (in_order g.K.Ord.cmp) c.in_ok-from_slice.ensures.items)
    ∙ less_in_order g.met.K.Ord.total g.met.K.Key.exact c.args.less.now c.args.self.now
