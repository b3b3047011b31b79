use Rattle.std.proofs.Common.{subst}
use Rattle.keyed_rows.specs.Sorted.{IsInOrder}
use Rattle.keyed_rows.proofs.KeyLists.{is_ordered}
use Rattle.keyed_rows.proofs.sorted.Sorted.as_slice.Goals as goal

pub returns-clause-ordered : goal.returns-clause-ordered
returns-clause-ordered g c = subst (IsInOrder g.K.Ord.cmp) c.self.view_is (is_ordered g.K.Ord.cmp _ c.self.invariant)
