-- For each phase, events that lead to its end, and outcomes that use up what is owed.
use Rattle.std.proofs.Common.{ℕ, suc, ◌≡◌, ◌≢◌, ◌∙◌, Bool, true, false, not, List, [], ◌∷◌, length, Ok, Err, refl, ap, cond, nat_eq, Result, eq-eqb}
use Rattle.server_life.specs.declared.life.Phase.{Phase}
use Rattle.server_life.specs.declared.life.Phase.TheVariants.{Stopped, Adopting, Spawning, Routing, Ready, Unrouting, Stopping, Parked}
use Rattle.server_life.specs.declared.life.Life.{Life}
use Rattle.server_life.specs.declared.life.LifeEvent.{LifeEvent}
use Rattle.server_life.specs.declared.life.LifeEvent.TheVariants.{AskStop, Spawned, Routed, RouteFailed, Unrouted, Ended, Alive, Dead}
use Rattle.server_life.specs.declared.life.Todo.{Todo}
use Rattle.server_life.specs.declared.life.Todo.TheVariants.{Nothing, AddRoute, DeleteRoute, StopProgram}
use Rattle.server_life.specs.declared.life.LifeRefusal.{LifeRefusal}
use Rattle.server_life.specs.LifeTable.{life_after}
use Rattle.server_life.specs.Lives.{LeadsTo, Each, is_failure, is_outcome}
use Rattle.server_life.specs.Owed.{owed}

abbrev at : Phase → Bool → Life
at phase asked = record { phase = phase; stop_asked = asked }

-- an outcome of the phase's own generation
own : (h : ℕ) (r : Result (Life × Todo) LifeRefusal) → cond (nat_eq h h) r (Err (LifeRefusal.OldGeneration h)) ≡ r
own h r = ap (λ b. cond b r (Err (LifeRefusal.OldGeneration h))) (eq-eqb h h refl)

abbrev Ending : Life → Type 0
Ending life = (events : List (ℕ × LifeEvent)) × (later : Life) × Each (λ e. not (is_failure e)) events × LeadsTo life events later × (later.phase ≡ Stopped)

-- one more event before
before : (life : Life) (g : ℕ) (e : LifeEvent) (made : Life × Todo) → not (is_failure e) ≡ true → life_after life g e ≡ Ok made → Ending made.0 → Ending life
before life g e made n h k = ((g, e) ∷ k.0, k.1, (n, k.2), (made, h, k.3), k.4)

stopped : Ending (at Stopped false)
stopped = ([], at Stopped false, tt, refl, refl)

stopping : (h : ℕ) (asked : Bool) → Ending (at (Stopping h) asked)
stopping h asked = before (at (Stopping h) asked) h Ended (at Stopped false, Nothing) refl (own h (Ok (at Stopped false, Nothing))) stopped

unrouting : (h : ℕ) (asked : Bool) → Ending (at (Unrouting h) asked)
unrouting h asked = before (at (Unrouting h) asked) h Unrouted (at (Stopping h) asked, StopProgram) refl (own h (Ok (at (Stopping h) asked, StopProgram))) (stopping h asked)

asked_routing : (h : ℕ) → Ending (at (Routing h) true)
asked_routing h = before (at (Routing h) true) h Routed (at (Unrouting h) true, DeleteRoute) refl (own h (Ok (at (Unrouting h) true, DeleteRoute))) (unrouting h true)

routing : (h : ℕ) (asked : Bool) → Ending (at (Routing h) asked)
routing h true = asked_routing h
routing h false = before (at (Routing h) false) h AskStop (at (Routing h) true, Nothing) refl refl (asked_routing h)

asked_spawning : (h : ℕ) → Ending (at (Spawning h) true)
asked_spawning h = before (at (Spawning h) true) h Spawned (at (Stopping h) true, StopProgram) refl (own h (Ok (at (Stopping h) true, StopProgram))) (stopping h true)

spawning : (h : ℕ) (asked : Bool) → Ending (at (Spawning h) asked)
spawning h true = asked_spawning h
spawning h false = before (at (Spawning h) false) h AskStop (at (Spawning h) true, Nothing) refl refl (asked_spawning h)

pub ends : (life : Life) → life.phase ≢ Stopped → Ending life
ends life apart = by_phase life.phase life.stop_asked apart where
  by_phase : (ph : Phase) (asked : Bool) → ph ≢ Stopped → Ending (at ph asked)
  by_phase Stopped asked n = absurd (n refl)
  by_phase (Adopting h) asked n = before (at (Adopting h) asked) h Dead (at (Unrouting h) asked, DeleteRoute) refl (own h (Ok (at (Unrouting h) asked, DeleteRoute))) (unrouting h asked)
  by_phase (Spawning h) asked n = spawning h asked
  by_phase (Routing h) asked n = routing h asked
  by_phase (Ready h) asked n = before (at (Ready h) asked) h AskStop (at (Unrouting h) true, DeleteRoute) refl refl (unrouting h true)
  by_phase (Unrouting h) asked n = unrouting h asked
  by_phase (Stopping h) asked n = stopping h asked
  by_phase (Parked h p) asked n = before (at (Parked h p) asked) h AskStop (at (Unrouting h) true, DeleteRoute) refl refl (unrouting h true)

abbrev Using : Life → Type 0
Using life = (events : List (ℕ × LifeEvent)) × (later : Life) × Each is_outcome events × LeadsTo life events later × (length events ≡ owed life.phase)

-- one more outcome before
then : (life : Life) (g : ℕ) (e : LifeEvent) (made : Life × Todo) → is_outcome e ≡ true → life_after life g e ≡ Ok made → suc (owed made.0.phase) ≡ owed life.phase → Using made.0 → Using life
then life g e made n h o k = ((g, e) ∷ k.0, k.1, (n, k.2), (made, h, k.3), ap suc k.4 ∙ o)

none : (life : Life) → 0 ≡ owed life.phase → Using life
none life o = ([], life, tt, refl, o)

use_stopping : (h : ℕ) (asked : Bool) → Using (at (Stopping h) asked)
use_stopping h asked = then (at (Stopping h) asked) h Ended (at Stopped false, Nothing) refl (own h (Ok (at Stopped false, Nothing))) refl (none (at Stopped false) refl)

use_unrouting : (h : ℕ) (asked : Bool) → Using (at (Unrouting h) asked)
use_unrouting h asked = then (at (Unrouting h) asked) h Unrouted (at (Stopping h) asked, StopProgram) refl (own h (Ok (at (Stopping h) asked, StopProgram))) refl (use_stopping h asked)

use_routing : (h : ℕ) (asked : Bool) → Using (at (Routing h) asked)
use_routing h asked = then (at (Routing h) asked) h RouteFailed (at (Unrouting h) asked, DeleteRoute) refl (own h (Ok (at (Unrouting h) asked, DeleteRoute))) refl (use_unrouting h asked)

pub uses_up : (life : Life) → life.stop_asked ≡ false → Using life
uses_up life unasked = by_phase life.phase life.stop_asked unasked where
  by_phase : (ph : Phase) (asked : Bool) → asked ≡ false → Using (at ph asked)
  by_phase ph true u = cc
  by_phase Stopped false u = none (at Stopped false) refl
  by_phase (Adopting h) false u = then (at (Adopting h) false) h Alive (at (Routing h) false, AddRoute) refl (own h (Ok (at (Routing h) false, AddRoute))) refl (use_routing h false)
  by_phase (Spawning h) false u = then (at (Spawning h) false) h Spawned (at (Routing h) false, AddRoute) refl (own h (Ok (at (Routing h) false, AddRoute))) refl (use_routing h false)
  by_phase (Routing h) false u = use_routing h false
  by_phase (Ready h) false u = none (at (Ready h) false) refl
  by_phase (Unrouting h) false u = use_unrouting h false
  by_phase (Stopping h) false u = use_stopping h false
  by_phase (Parked h p) false u = none (at (Parked h p) false) refl
