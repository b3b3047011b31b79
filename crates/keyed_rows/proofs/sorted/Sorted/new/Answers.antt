use Rattle.std.proofs.Common.{sym, subst}
use Rattle.std.specs.List.Sorted.{IsStrictlySortedBy}
use Rattle.keyed_rows.proofs.KeyLists.{no_keys}
use Rattle.keyed_rows.proofs.sorted.Sorted.new.Goals as goal

pub invariant_of-result : goal.invariant_of-result
invariant_of-result g c = subst (IsStrictlySortedBy g.K.Ord.cmp) (sym c.new.ensures.items) (no_keys g.K.Ord.cmp)
