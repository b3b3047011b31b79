-- A step of the one life of a book of adoptions.
use Rattle.std.proofs.Common.{◌≡◌, ℕ, Bool, true, false, Option, Some, None, Result, Ok, Err, IfOk, refl, sym, subst, nat_eq, if◌then◌else◌}
use Rattle.std.proofs.lemmas.Bool.{eq-eqb}
use Rattle.server_life.specs.declared.life.Phase.{Phase}
use Rattle.server_life.specs.declared.life.Phase.TheVariants.{Stopped, Adopting, Spawning, Routing, Ready, Unrouting, Stopping, Parked}
use Rattle.server_life.specs.declared.life.Life.{Life}
use Rattle.server_life.specs.declared.life.LifeEvent.{LifeEvent}
use Rattle.server_life.specs.declared.life.Todo.{Todo}
use Rattle.server_life.specs.declared.life.LifeRefusal.{LifeRefusal}
use Rattle.server_life.specs.LifeTable.{life_after, generation_of}
use Rattle.server_work.specs.LifeSteps.{step_of, step_at, left_in, left_of}

none_some : (g : ℕ) → None ≡ Some g → ⊥
none_some g h = cc

-- a life that an outcome of its generation goes on has not ended
of_left : (phase : Phase) (life : Life) (g : ℕ) (event : LifeEvent) (made : Life × Todo) → generation_of phase ≡ Some g
    → life_after life g event ≡ Ok made → step_of (left_in phase life) g event ≡ Ok made
of_left Stopped life g event made has took = absurd (none_some g has)
of_left (Adopting h) life g event made has took = took
of_left (Spawning h) life g event made has took = took
of_left (Routing h) life g event made has took = took
of_left (Ready h) life g event made has took = took
of_left (Unrouting h) life g event made has took = took
of_left (Stopping h) life g event made has took = took
of_left (Parked h at) life g event made has took = took

pub takes : (n g : ℕ) (life : Life) (event : LifeEvent) (made : Life × Todo) → g ≡ n → generation_of life.phase ≡ Some g
    → life_after life g event ≡ Ok made → step_at (λ k. if nat_eq k n then left_of life else None) g event ≡ Ok made
takes n g life event made same has took =
    subst (λ b. step_of (if b then left_of life else None) g event ≡ Ok made) (sym (eq-eqb g n same)) (of_left life.phase life g event made has took)

at_each : (b : Bool) (now was : Option Life) → (if b then now else None) ≡ (if b then now else (if b then was else None))
at_each true now was = refl
at_each false now was = refl

pub sets : (n g : ℕ) (now was : Option Life) → g ≡ n → (k : ℕ)
    → (if nat_eq k n then now else None) ≡ (if nat_eq k g then now else (if nat_eq k n then was else None))
sets n g now was same k =
    subst (λ m. (if nat_eq k n then now else None) ≡ (if nat_eq k m then now else (if nat_eq k n then was else None))) (sym same) (at_each (nat_eq k n) now was)

pub of_made : (r : Result (Life × Todo) LifeRefusal) (P : Life × Todo → Type 0) → ((made : Life × Todo) → r ≡ Ok made → P made) → IfOk r P
of_made (Ok made) P told = told made refl
of_made (Err refusal) P told = tt
