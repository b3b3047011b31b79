use Rattle.std.proofs.Common.{sym, subst}
use Rattle.keyed_rows.specs.Sorted.{IsInOrder}
use Rattle.keyed_rows.proofs.KeyLists.{is_ordered}
use Rattle.keyed_rows.proofs.sorted.Sorted.contains.Goals as goal

pub is_found-requires : goal.is_found-requires
is_found-requires g c = subst (IsInOrder g.K.Ord.cmp) (sym c.as_slice.ensures.value) (is_ordered g.K.Ord.cmp _ c.self.invariant)
