use Rattle.std.proofs.Common.{◌≡◌, drop, fold}
use Rattle.row_rules.specs.Judged.{with_other}
use Rattle.row_rules.proofs.put.put_others.Given as goal

abbrev pub invariant-loop-row : goal.invariant-loop-row
invariant-loop-row l = fold (λ t row. with_other row t) l.tables (drop l.row-index l.rows) ≡ fold (λ t row. with_other row t) l.fn.tables l.rows
