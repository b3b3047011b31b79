-- A step of a life, as the chains of server_work see it.
use Rattle.std.proofs.Common.{◌≡◌, ◌≢◌, ℕ, Bool, true, false, cond, nat_eq, List, [], ◌∷◌, Option, refl, sym, ◌∙◌, ap, subst, arith}
use Rattle.std.proofs.lemmas.Bool.Decides.{nat_tests}
use Rattle.std.specs.Prelude.{Some, None, Result, Ok, Err, option_map}
use Rattle.std.specs.FinMap.{get, insert, remove}
use mathlib.Core.List.{IsPrefix}
use Rattle.std.proofs.lemmas.List.{append-nil}
use Rattle.server_life.specs.LifeTable.{life_after}
use Rattle.server_life.specs.declared.life.Life.{Life}
use Rattle.server_life.specs.declared.life.LifeEvent.{LifeEvent}
use Rattle.server_life.specs.declared.life.LifeRefusal.{LifeRefusal}
use Rattle.server_life.specs.declared.life.Phase.{Phase}
use Rattle.server_life.specs.declared.life.Phase.TheVariants.{Stopped, Adopting, Spawning, Routing, Ready, Unrouting, Stopping, Parked}
use Rattle.server_life.specs.declared.life.Todo.{Todo}
use Rattle.server_work.specs.LifeSteps as work
use Rattle.server_work.specs.LifeVisits.{LifeVisited}
use Rattle.server_work.specs.Outcomes as outcomes
use Rattle.server_work.specs.declared.book.Lived.{Lived as ChainLived}
use Rattle.server_life.specs.declared.life.LifeEvent.TheVariants.{Ended, SpawnFailed}
use Rattle.hub_lives.specs.Lives.{Lives, LifeStep, step_of, step_at}
use Rattle.hub_lives.specs.declared.lives.Leased.{Leased}
use Rattle.hub_lives.proofs.Found.{get_same, get_other, get_gone, get_left}
use Rattle.hub_machine.specs.State.{Hub}
use Rattle.hub_machine.specs.Apply.{lived, moved, stepped, of_lease}
use Rattle.hub_machine.specs.declared.change.Change.TheVariants.{Life as Lived}
use Rattle.hub_machine.specs.Steps.{KeptAs, entry_of, noted_event, is_end}
use Rattle.hub_machine.specs.declared.step.Kept.{Kept as EndKept}
use Rattle.hub_machine.specs.declared.step.Kept.TheVariants as K
use Rattle.hub_machine.specs.declared.step.Step.{Step}
use Rattle.hub_core.specs.LifeBook.{LeadsToLives, Notes, kept_of, lived_of, lives_of}
use Rattle.hub_core.specs.Lived.{LivesOn, LivedAt}
use Rattle.hub_core.specs.Visits.{Standing, Entry, Reached, entries_of}
use Rattle.hub_core.specs.declared.start.Start.{Start}
use Rattle.hub_core.proofs.Living.{noted_owes, owed_step}

by_number : (k g : ℕ) (A : Bool → Type 0) → (k ≡ g → A true) → (k ≢ g → A false) → A (nat_eq k g)
by_number k g A same other = by_test (nat_eq k g) refl
  where
    by_test : (b : Bool) → nat_eq k g ≡ b → A b
    by_test true e = same (grind (arith, nat_tests, e))
    by_test false e = other (λ h. grind (arith, nat_tests, e, h))

-- the lives with one set, and with one gone
set_one : (lives : Lives) (g : ℕ) (l : Leased) → work.IsSet g (Some l.life) (lives_of lives) (lives_of (insert lives g l))
set_one lives g l k = by_number k g (λ b. option_map (λ (x : Leased). x.life) (get (insert lives g l) k) ≡ cond b (Some l.life) (option_map (λ (x : Leased). x.life) (get lives k)))
    (λ e. ap (λ n. option_map (λ (x : Leased). x.life) (get (insert lives g l) n)) e ∙ ap (option_map (λ (x : Leased). x.life)) (get_same lives g l))
    (λ n. ap (option_map (λ (x : Leased). x.life)) (get_other lives g l k n))

gone_one : (lives : Lives) (g : ℕ) → work.IsSet g None (lives_of lives) (lives_of (remove lives g))
gone_one lives g k = by_number k g (λ b. option_map (λ (x : Leased). x.life) (get (remove lives g) k) ≡ cond b None (option_map (λ (x : Leased). x.life) (get lives k)))
    (λ e. ap (λ n. option_map (λ (x : Leased). x.life) (get (remove lives g) n)) e ∙ ap (option_map (λ (x : Leased). x.life)) (get_gone lives g))
    (λ n. ap (option_map (λ (x : Leased). x.life)) (get_left lives g k n))

moves : (s : Hub) (g : ℕ) (l : Leased) (life : Life) (phase : Phase) → work.IsSet g (work.left_in phase life) (lives_of s.lives) (lives_of (moved g l life phase s).lives)
moves s g l life Stopped = gone_one s.lives g
moves s g l life (Adopting x) = set_one s.lives g (record l { life = life })
moves s g l life (Spawning x) = set_one s.lives g (record l { life = life })
moves s g l life (Routing x) = set_one s.lives g (record l { life = life })
moves s g l life (Ready x) = set_one s.lives g (record l { life = life })
moves s g l life (Unrouting x) = set_one s.lives g (record l { life = life })
moves s g l life (Stopping x) = set_one s.lives g (record l { life = life })
moves s g l life (Parked x at) = set_one s.lives g (record l { life = life })

steps_on : (s : Hub) (g : ℕ) (l : Leased) (step : LifeStep) (made : Life × Todo) → step ≡ Ok made → work.IsSet g (work.left_of made.0) (lives_of s.lives) (lives_of (stepped g l step s).lives)
steps_on s g l (Ok next) made e = subst (λ (m : Life × Todo). work.IsSet g (work.left_of m.0) (lives_of s.lives) (lives_of (stepped g l (Ok next) s).lives)) (same_ok next made e) (moves s g l next.0 next.0.phase)
  where
    same_ok : (x y : Life × Todo) → (let a : LifeStep = Ok x in let b : LifeStep = Ok y in a ≡ b) → x ≡ y
    same_ok x y e = cc
steps_on s g l (Err x) made e = cc e

lease_steps : (s : Hub) (g : ℕ) (event : LifeEvent) (l : Option Leased) (made : Life × Todo) → step_of l g event ≡ Ok made
    → work.IsSet g (work.left_of made.0) (lives_of s.lives) (lives_of (of_lease g event l s).lives)
lease_steps s g event None made e = cc e
lease_steps s g event (Some l) made e = steps_on s g l (life_after l.life g event) made e

-- the lives after an entry of a life
pub lives_after : (s : Hub) (g : ℕ) (event : LifeEvent) (made : Life × Todo) → step_at s.lives g event ≡ Ok made
    → work.IsSet g (work.left_of made.0) (lives_of s.lives) (lives_of (lived g event s).lives)
lives_after s g event made e = lease_steps s g event (get s.lives g) made e

-- the same step, of the life alone
alone : (l : Option Leased) (g : ℕ) (event : LifeEvent) → work.step_of (option_map (λ (x : Leased). x.life) l) g event ≡ step_of l g event
alone None g event = refl
alone (Some l) g event = refl

pub step_alone : (lives : Lives) (g : ℕ) (event : LifeEvent) → work.step_at (lives_of lives) g event ≡ step_at lives g event
step_alone lives g event = alone (get lives g) g event

-- ---- what an outcome leaves, in the words of a chain

pub leads_to : (start : Start) (entries : List Entry) (s : Hub) → Reached start entries s → LeadsToLives (Some start) entries (lives_of s.lives)
leads_to start entries s h = (s, h, refl)

same_noted : (event : LifeEvent) (kept : EndKept) → noted_event event kept ≡ outcomes.noted event (kept_of kept)
same_noted event K.NotAsked = refl
same_noted event K.Kept = refl
same_noted event K.KeeperFault = refl
same_noted event K.Memory = refl

same_end : (event : LifeEvent) → is_end event ≡ outcomes.is_end event
same_end Ended = refl
same_end SpawnFailed = refl
same_end event = refl

kept_as : (ends : Bool) (faults faults' : ℕ) (kept : EndKept) → (ends ≡ false → faults' ≡ faults) → KeptAs ends faults faults' kept → outcomes.KeptAs ends faults faults' (kept_of kept)
kept_as true faults faults' K.NotAsked same h = h
kept_as true faults faults' K.Kept same h = tt
kept_as true faults faults' K.KeeperFault same h = h
kept_as true faults faults' K.Memory same h = tt
kept_as false faults faults' K.NotAsked same h = same refl
kept_as false faults faults' K.Kept same h = absurd h
kept_as false faults faults' K.KeeperFault same h = absurd h
kept_as false faults faults' K.Memory same h = absurd h

-- what came of a step, in the words of a chain
abbrev pub told_of : Result Step LifeRefusal → Result ChainLived LifeRefusal
told_of (Ok made) = Ok (lived_of made)
told_of (Err e) = Err e

pub visited : (b b' : Standing) (g : ℕ) (event : LifeEvent) (came : Result Step LifeRefusal) → LivesOn b b' g event came
    → LivedAt b.start (entries_of b) (entries_of b') b.faults b'.faults g event came
    → LifeVisited Notes (entries_of b) (entries_of b') (lives_of b.hub.lives) (lives_of b'.hub.lives) b.faults b'.faults g event (told_of came)
visited b b' g event (Ok made) on at =
    let lives = b.hub.lives in
    let noted = noted_event event made.kept in
    let same = same_noted event made.kept in
    let first = owed_step (step_at lives g event) made.todo on.steps.owes in
    let next = owed_step (step_at lives g noted) made.todo (noted_owes (get lives g) g event made.kept made.todo b.faults b'.faults on.steps.kept on.steps.owes) in
    record {
      entry = Lived g noted;
      taken = first.0;
      made = next.0;
      appends = at.noted;
      notes_it = ap (Lived g) same;
      takes = step_alone lives g event ∙ first.1;
      row = subst (λ (e : LifeEvent). work.step_at (lives_of lives) g e ≡ Ok (next.0, made.todo)) same (step_alone lives g noted ∙ next.1);
      left = subst (λ (x : Hub). work.IsSet g (work.left_of next.0) (lives_of lives) (lives_of x.lives)) (sym on.steps.hub) (lives_after b.hub g noted (next.0, made.todo) next.1);
      kept = subst (λ (ends : Bool). outcomes.KeptAs ends b.faults b'.faults (kept_of made.kept)) (same_end event)
          (kept_as (is_end event) b.faults b'.faults made.kept on.unasked on.steps.kept);
      longer = at.length;
    }
visited b b' g event (Err e) on at = (at.noted, at.unasked, step_alone b.hub.lives g event ∙ on.steps.refused)

pub lived_appends : (start : Start) (before after : List Entry) (faults faults' : ℕ) (g : ℕ) (event : LifeEvent) (came : Result Step LifeRefusal)
    → LivedAt start before after faults faults' g event came → IsPrefix before after
lived_appends start before after faults faults' g event (Ok made) at = (entry_of g event made.kept ∷ [], sym at.noted)
lived_appends start before after faults faults' g event (Err e) at = ([], append-nil before ∙ sym at.noted)
