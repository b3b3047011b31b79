-- A chain of calls: its entries at their places in the one history, and the calls, with what they told.
use Rattle.std.specs.Prelude.{◌≡◌, ◌≢◌, ◌≤◌, ℕ, ◌+◌, Bool, true, ltb, if◌then◌else◌, List, [], ◌∷◌, ◌++◌, length, map, Option, Some, None}
use Rattle.std.specs.Prelude.{Ok, Err}
use Rattle.std.specs.List.{flat_map}
use mathlib.Core.List.{IsPrefix}
use Rattle.desk.specs.Passes.{PassState, IsSamePass}
use Rattle.hub_devices.specs.declared.calls.Spawning.{Spawning}
use Rattle.hub_devices.specs.declared.calls.Routing.{Routing}
use Rattle.hub_devices.specs.declared.calls.Told.{Told}
use Rattle.hub_devices.specs.Calls.{Grows}
use Rattle.server_life.specs.declared.life.Life.{Life}
use Rattle.server_life.specs.declared.life.LifeEvent.{LifeEvent}
use Rattle.server_life.specs.declared.life.LifeRefusal.{LifeRefusal}
use Rattle.server_life.specs.declared.life.Todo.{Todo}
use Rattle.server_life.specs.declared.life.Todo.TheVariants.{Nothing}
use Rattle.server_work.specs.declared.work.Work.{Work}
use Rattle.server_work.specs.declared.work.Kept.{Kept}
use Rattle.server_work.specs.declared.tale.Tale.{Tale}
use Rattle.server_work.specs.LifeSteps.{Lives, step_at, left_of, IsSet}
use Rattle.server_work.specs.Outcomes.{todo_of, spawner_did, routes_did, is_end, noted, KeptAs}
use Rattle.server_work.specs.Tales.{new_tale, tale_with}

-- ---- a place in the history

-- the entries up to a place, and the book's count of faults there
pub record Sight (E : Type 0) : Type 0 where
  pub entries : List E
  pub faults : ℕ

-- what a pass has seen
abbrev pub sight : {E A : Type 0} → PassState E A → Sight E
sight p = record { entries = p.seen; faults = p.faults }

-- A visit found a later place than the one seen, and exactly that one where nobody else is there
abbrev pub Comes : {E : Type 0} → Bool → Sight E → Sight E → Type 0
Comes alone seen found = IsPrefix seen.entries found.entries × (seen.faults ≤ found.faults) × (alone ≡ true → found ≡ seen)

-- ---- the steps of a chain

-- an entry of a chain: what the visit found, and the lives there; the outcome; what the life became, and what it owes then; whether an end
-- was kept; and the lives and the book's count of faults afterwards
pub record Step (E : Type 0) : Type 0 where
  pub found : Sight E
  pub lives : Lives
  pub entry : E
  pub outcome : LifeEvent
  pub made : Life
  pub owes : Todo
  pub kept : Kept
  pub after : Lives
  pub faults : ℕ

-- the steps, and the outcome that was refused, if one was
pub record Chain (E : Type 0) : Type 0 where
  pub steps : List (Step E)
  pub refused : List LifeEvent

-- the history after the step
abbrev pub left_by : {E : Type 0} → Step E → Sight E
left_by s = record { entries = s.found.entries ++ s.entry ∷ []; faults = s.faults }

-- its entry with its place
abbrev pub own : {E : Type 0} → Step E → ℕ × E
own s = (length s.found.entries, s.entry)

-- The outcome that was taken in the step
abbrev pub outcome_of : {E : Type 0} → Step E → LifeEvent
outcome_of s = s.outcome

-- 1 where the book's count of faults rose in the step
abbrev pub rose : {E : Type 0} → Step E → ℕ
rose s = if ltb s.found.faults s.faults then 1 else 0

-- in how many steps it rose
abbrev pub fails : {E : Type 0} → List (Step E) → ℕ
fails [] = 0
fails (s ∷ ss) = rose s + fails ss

-- What is told of all these steps, behind what was told before them
abbrev pub tale_from : {E : Type 0} → Tale → List (Step E) → Tale
tale_from t [] = t
tale_from t (s ∷ ss) = tale_from (tale_with t s.outcome s.owes s.kept (length s.found.entries + 1)) ss

-- ---- a pass and the devices

-- a pass, and the calls that the devices tell
pub record At (E A : Type 0) : Type 0 where
  pub pass : PassState E A
  pub spawner : Option (List (Spawning × Told))
  pub routes : Option (List (Routing × Told))

-- `reached a h lives`: from the base a the entries h lead to these lives; `notes e g event`: the entry e is this event of the life of the
-- generation g
module _ {E A : Type 0} (reached : Option A → List E → Lives → Type 0) (notes : E → ℕ → LifeEvent → Type 0) where
  -- the life at the place of the step takes the outcome of the call that it owes, and becomes what the life table makes of what is noted
  pub record IsStep (base : Option A) (g : ℕ) (owed : Todo) (s : Step E) : Type 0 where
    pub some : owed ≢ Nothing
    pub of : todo_of s.outcome ≡ owed
    pub at : reached base s.found.entries s.lives
    pub takes : (taken : Life) × (step_at s.lives g s.outcome ≡ Ok (taken, s.owes))
    pub row : step_at s.lives g (noted s.outcome s.kept) ≡ Ok (s.made, s.owes)
    pub left : IsSet g (left_of s.made) s.lives s.after
    pub later : reached base (s.found.entries ++ s.entry ∷ []) s.after
    pub entry : notes s.entry g (noted s.outcome s.kept)
    pub kept : KeptAs (is_end s.outcome) s.found.faults s.faults s.kept
    pub grown : s.found.faults ≤ s.faults

  -- from what was seen and is owed, through the steps, to what is seen and owed then: each step's call is the one that the step before owes
  abbrev pub Goes : Option A → Bool → ℕ → Sight E → Todo → List (Step E) → Sight E → Todo → Type 0
  Goes base alone g seen owed [] seen' owed' = (seen' ≡ seen) × (owed' ≡ owed)
  Goes base alone g seen owed (s ∷ ss) seen' owed' =
      Comes alone seen s.found × IsStep base g owed s × Goes base alone g (left_by s) s.owes ss seen' owed'

  -- from what was owed first to what is owed now: the pass's own entries grew by the steps' alone and the devices' calls by those of the
  -- steps, and of the outcomes without a step; it had seen this after the last step
  pub record Drove (w : Work) (x y : At E A) (first owes : Todo) (seen : Sight E) (steps : List (Step E)) (extra : List LifeEvent) : Type 0
    where
      pub goes : Goes x.pass.base x.pass.alone w.generation (sight x.pass) first steps seen owes
      pub same : IsSamePass x.pass y.pass
      pub mine : y.pass.mine ≡ x.pass.mine ++ map own steps
      pub failed : y.pass.failed ≡ x.pass.failed + fails steps
      pub spawner : Grows x.spawner (flat_map (spawner_did w) (map outcome_of steps ++ extra)) y.spawner
      pub routes : Grows x.routes (flat_map (routes_did w) (map outcome_of steps ++ extra)) y.routes

  -- the life at the place that the pass came to doesn't take the outcome
  pub record Refused (p q : PassState E A) (g : ℕ) (seen : Sight E) (outcome : LifeEvent) : Type 0 where
    pub lives : Lives
    pub error : LifeRefusal
    pub comes : Comes p.alone seen (sight q)
    pub at : reached p.base q.seen lives
    pub row : step_at lives g outcome ≡ Err error

  -- all that was owed is done
  pub record Ended (w : Work) (x : At E A) (first : Todo) (k : Chain E) (tale : Tale) (y : At E A) : Type 0 where
    pub none : k.refused ≡ []
    pub tale_is : tale ≡ tale_from new_tale k.steps
    pub drove : Drove w x y first Nothing (sight y.pass) k.steps []

  -- the outcome of the last call was refused
  pub record Broke (w : Work) (x : At E A) (first : Todo) (k : Chain E) (y : At E A) : Type 0 where
    pub outcome : LifeEvent
    pub seen : Sight E
    pub owed : todo_of outcome ≢ Nothing
    pub refused : k.refused ≡ outcome ∷ []
    pub drove : Drove w x y first (todo_of outcome) seen k.steps (outcome ∷ [])
    pub refusal : Refused x.pass y.pass w.generation seen outcome

  -- a chain from the call that was owed first to its end, and what is told of it: nothing of one that broke
  abbrev pub ChainEnds : Work → At E A → Todo → Chain E → Option Tale → At E A → Type 0
  ChainEnds w x first k None y = Broke w x first k y
  ChainEnds w x first k (Some tale) y = Ended w x first k tale y
