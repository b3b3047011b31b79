use Rattle.std.proofs.Common.{ap}
use Rattle.roles.specs.Looks.{Entry}
use Rattle.roles.proofs.Apart.{none_apart, held_apart}
use Rattle.roles.proofs.cache.RightsCache.keep.Goals as goal
use Rattle.roles.proofs.cache.RightsCache.keep.Goals.{in-Ok, in-Err}

pub invariant_of-self : goal.invariant_of-self
invariant_of-self c = elim c.match-put.branch [
  | in-Ok w ↦ none_apart c.put.new.self.entries _ w.t-9-is
  | in-Err w ↦ held_apart c.self.inside.listed.entries c.put.new.self.entries c.args.id w.in-Err.refused.value _ w.t-9-is
      (ap (λ (p : Entry). p.0) w.in-Err.ensures.value_returned) (ap (λ l. l.entries) w.in-Err.ensures.err) w.in-Err.ensures.succeeds
]
