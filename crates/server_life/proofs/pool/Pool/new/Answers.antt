use Rattle.std.proofs.Common.{arith, refl, sym, ap, ◌∙◌}
use Rattle.server_life.specs.Pools.{are_distinct}
use Rattle.server_life.proofs.Distinct.{pool_of, many, twice}
use Rattle.server_life.proofs.pool.Pool.new.Goals as goal
use Rattle.server_life.proofs.pool.Pool.new.Goals.{then-len-gt-LARGEST-via-then-len-gt-LARGEST, then-len-gt-LARGEST-via-else-len-gt-LARGEST+then-not-are_distinct}

pub returns-then-len-gt-LARGEST : goal.returns-then-len-gt-LARGEST
returns-then-len-gt-LARGEST c = elim c.then-len-gt-LARGEST.branch [
  | then-len-gt-LARGEST-via-then-len-gt-LARGEST w ↦ many c.args.targets (omega (arith, c.len.ensures, w.if-len-gt-LARGEST.true))
  | then-len-gt-LARGEST-via-else-len-gt-LARGEST+then-not-are_distinct w ↦ twice c.args.targets (ap are_distinct (sym w.as_slice.ensures) ∙ sym w.are_distinct.ensures ∙ w.if-not-are_distinct.true)
]

pub invariant_of-result : goal.invariant_of-result
invariant_of-result c = pool_of c.args.targets (omega (arith, c.len.ensures, c.if-len-gt-LARGEST.false)) (ap are_distinct (sym c.as_slice.ensures) ∙ sym c.are_distinct.ensures ∙ c.if-not-are_distinct.false)

pub returns : goal.returns
returns c = (refl, pool_of c.args.targets (omega (arith, c.len.ensures, c.if-len-gt-LARGEST.false)) (ap are_distinct (sym c.as_slice.ensures) ∙ sym c.are_distinct.ensures ∙ c.if-not-are_distinct.false))
