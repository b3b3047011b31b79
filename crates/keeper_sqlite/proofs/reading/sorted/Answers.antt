use Rattle.std.proofs.Common.{rules}
use Rattle.std.specs.Ordering.{is_lt}
use Rattle.std.proofs.lemmas.List.Sorted.{IsPermutation-trans, ranks_by, answers_always}
use Rattle.keeper.specs.Rows.{row_cmp}
use Rattle.keeper.specs.declared.keeper.Row.{Row}
use Rattle.row_table.proofs.Loaded.{row_cmp_total}
use Rattle.keeper_sqlite.proofs.reading.sorted.Goals as goal

pub returns-clause-moved : goal.returns-clause-moved
returns-clause-moved c = IsPermutation-trans _ _ _ c.sort_by_key.ensures.permutation c.sort_by.ensures.permutation

pub returns-clause-sorted : goal.returns-clause-sorted
returns-clause-sorted c =
    c.in_ok-sort_by.ensures.sorted (λ (x y : Row). is_lt (row_cmp x y)) (ranks_by row_cmp_total (λ (r : Row). r)) (answers_always _ _ _ (λ f a r f' called. search rules))
