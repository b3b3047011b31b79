-- What the visit with an outcome leaves of a pass.
use Rattle.std.specs.Prelude.{◌≡◌, ℕ, ◌+◌, List, [], ◌∷◌, ◌++◌, length, Option, Result, Ok, Err}
use Rattle.desk.specs.Passes.{PassState, IsSamePass}
use Rattle.server_life.specs.declared.life.LifeEvent.{LifeEvent}
use Rattle.server_life.specs.declared.life.LifeRefusal.{LifeRefusal}
use Rattle.server_work.specs.declared.book.Lived.{Lived}
use Rattle.server_work.specs.LifeSteps.{Lives}
use Rattle.server_work.specs.Outcomes.{todo_of}
use Rattle.server_work.specs.Chains.{Sight, sight, Comes, Step, left_by, own, rose, IsStep, Refused}

module _ {E A : Type 0} (reached : Option A → List E → Lives → Type 0) (notes : E → ℕ → LifeEvent → Type 0) where
  -- the pass made one step
  pub record Made (p q : PassState E A) (g : ℕ) (outcome : LifeEvent) (l : Lived) : Type 0 where
    pub step : Step E
    pub of : step.outcome ≡ outcome
    pub owes : step.owes ≡ l.todo
    pub kept : step.kept ≡ l.kept
    pub longer : l.length ≡ length step.found.entries + 1
    pub comes : Comes p.alone (sight p) step.found
    pub is : IsStep reached notes p.base g (todo_of outcome) step
    pub same : IsSamePass p q
    pub seen : sight q ≡ left_by step
    pub mine : q.mine ≡ p.mine ++ own step ∷ []
    pub failed : q.failed ≡ p.failed + rose step

  -- the outcome was refused, and the pass made nothing
  pub record Stays (p q : PassState E A) (g : ℕ) (outcome : LifeEvent) : Type 0 where
    pub refused : Refused reached notes p q g (sight p) outcome
    pub same : IsSamePass p q
    pub mine : q.mine ≡ p.mine
    pub failed : q.failed ≡ p.failed

  -- What the visit of a pass p with the outcome of the generation g came to, which is q then: one step, or none where the outcome was
  -- refused
  abbrev pub Took : (p q : PassState E A) → ℕ → LifeEvent → Result Lived LifeRefusal → Type 0
  Took p q g outcome (Ok l) = Made p q g outcome l
  Took p q g outcome (Err e) = Stays p q g outcome
