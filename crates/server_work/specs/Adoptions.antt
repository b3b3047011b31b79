-- Adoptions one after the other, and how many of them ended ready, stopped and parked.
use Rattle.std.specs.Prelude.{◌≡◌, ℕ, ◌+◌, List, [], ◌∷◌, Option, Some, None, if◌then◌else◌}
use Rattle.server_life.specs.declared.life.LifeEvent.{LifeEvent}
use Rattle.server_life.specs.declared.life.Todo.TheVariants.{Poll}
use Rattle.server_work.specs.declared.work.Work.{Work}
use Rattle.server_work.specs.declared.tale.Tale.{Tale}
use Rattle.server_work.specs.LifeSteps.{Lives}
use Rattle.server_work.specs.Chains.{At, Chain, ChainEnds}
use Rattle.server_work.specs.Gains.{Gain, gain_of}

module _ {E A : Type 0} (reached : Option A → List E → Lives → Type 0) (notes : E → ℕ → LifeEvent → Type 0) where
  -- a chain that begins with a poll
  pub record Adopts (x : At E A) (w : Work) (end : Option Tale) (t : Gain E) (y : At E A) : Type 0 where
    pub chain : Chain E
    pub is : ChainEnds reached notes w x Poll chain end y
    pub gain : t ≡ gain_of w chain

  -- the chains of these works in this order, with what is told of each and what each gains
  abbrev pub Adoptions : At E A → List Work → List (Option Tale) → List (Gain E) → At E A → Type 0
  Adoptions x [] [] [] y = y ≡ x
  Adoptions x (w ∷ ws) (end ∷ ends) (t ∷ ts) y = (z : At E A) × Adopts x w end t z × Adoptions z ws ends ts y
  Adoptions x ws ends ts y = ⊥

-- ---- the numbers; a broken chain counts in none

-- 1 for a chain after which its server is ready
abbrev pub ready_one : Option Tale → ℕ
ready_one None = 0
ready_one (Some t) = if t.ready then 1 else 0

-- 1 for a chain after which its server isn't ready, and has stopped
abbrev pub stopped_one : Option Tale → ℕ
stopped_one None = 0
stopped_one (Some t) = if t.ready then 0 else (if t.stopped then 1 else 0)

-- 1 for a chain after which its server neither is ready nor has stopped
abbrev pub parked_one : Option Tale → ℕ
parked_one None = 0
parked_one (Some t) = if t.ready then 0 else (if t.stopped then 0 else 1)

-- How many of these chains left their servers ready
abbrev pub readies : List (Option Tale) → ℕ
readies [] = 0
readies (t ∷ ts) = ready_one t + readies ts

-- How many of these chains left their servers stopped
abbrev pub stops : List (Option Tale) → ℕ
stops [] = 0
stops (t ∷ ts) = stopped_one t + stops ts

-- How many of these chains left their servers as neither
abbrev pub parks : List (Option Tale) → ℕ
parks [] = 0
parks (t ∷ ts) = parked_one t + parks ts
