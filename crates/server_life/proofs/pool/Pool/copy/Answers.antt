use Rattle.std.proofs.Common.{◌∙◌, subst, sym}
use Rattle.std.proofs.lemmas.List.{take_all}
use Rattle.server_life.specs.Pools.{IsPool}
use Rattle.server_life.proofs.pool.Pool.copy.Goals as goal

pub invariant_of-result : goal.invariant_of-result
invariant_of-result c =
    let copied = c.from_vec.ensures ∙ c.loop-target.invariant ∙ take_all c.loop-target.target-index c.as_slice-target-items.result.now c.loop-target-test.false ∙ c.as_slice-target-items.ensures in
    subst IsPool (sym copied) c.self.invariant
