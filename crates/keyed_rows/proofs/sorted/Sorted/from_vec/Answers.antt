use Rattle.std.proofs.Common.{◌∙◌, sym, subst}
use Rattle.std.specs.List.Sorted.{IsStrictlySortedBy}
use Rattle.std.proofs.lemmas.List.Filters.{dedup_is}
use Rattle.keyed_rows.proofs.KeyLists.{put_in_order, sorted_dedup}
use Rattle.keyed_rows.proofs.sorted.Sorted.from_vec.Goals as goal

pub invariant_of-result : goal.invariant_of-result
invariant_of-result g c =
    subst (IsStrictlySortedBy g.K.Ord.cmp) (sym (dedup_is g.K.PartialEq.eq _ _ c.dedup.ensures.filtered))
    (sorted_dedup g.met.K.Ord.total g.met.K.Key.exact g.met.K.Ord.matches_eq _ c.sort_unstable.ensures.sorted)

pub returns : goal.returns
returns g c =
    dedup_is g.K.PartialEq.eq _ _ c.dedup.ensures.filtered
    ∙ put_in_order g.met.K.Ord.total g.met.K.Key.exact g.met.K.Ord.matches_eq _ _ c.sort_unstable.ensures.permutation c.sort_unstable.ensures.sorted
