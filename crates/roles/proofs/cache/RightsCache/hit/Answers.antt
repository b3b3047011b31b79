use Rattle.std.proofs.Common.{◌∙◌, ap, subst, nat_eq, List, Contains}
use Rattle.lru.proofs.CallerLemmas.{Contains-promoted}
use Rattle.roles.specs.Looks.{Entry}
use Rattle.roles.proofs.Apart.{fewer_apart}
use Rattle.roles.proofs.cache.RightsCache.hit.Goals as goal
use Rattle.roles.proofs.cache.RightsCache.hit.Goals.{then-is_some, else-is_some}

pub invariant_of-self : goal.invariant_of-self
invariant_of-self c = elim c.if-is_some.branch [
  | then-is_some w ↦ fewer_apart c.self.inside.listed.entries c.if-is_some.self-inside.listed.entries c.self.inside.held c.if-is_some.self-inside.held
      (λ e h. Contains-promoted (nat_eq c.args.id) c.self.inside.listed.entries e
      (subst (λ (l : List Entry). Contains l e) (ap (λ i. i.listed.entries) w.self-inside-is ∙ ap (λ l. l.entries) w.promote.ensures.entries) h))
      (ap (λ i. i.held) w.self-inside-is) c.self.invariant
  | else-is_some w ↦ fewer_apart c.self.inside.listed.entries c.if-is_some.self-inside.listed.entries c.self.inside.held c.if-is_some.self-inside.held
      (λ e h. subst (λ (l : List Entry). Contains l e) (ap (λ i. i.listed.entries) w.self-inside-is) h)
      (ap (λ i. i.held) w.self-inside-is) c.self.invariant
]
