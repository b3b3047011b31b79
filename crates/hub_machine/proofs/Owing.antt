-- What is owed after a step of a life, and that the history has room for each outcome.
use Rattle.std.proofs.Common.{◌≡◌, ℕ, ◌+◌, ◌*◌, ◌≤◌, ◌<◌, ◌^◌, Bool, true, false, nat_lt, [], Option, Some, None, Ok, Err, refl, sym, ap, ◌∙◌, arith}
use Rattle.std.specs.Prelude.{if◌then◌else◌, IsOk}
use Rattle.std.proofs.lemmas.Bool.Decides.{nat_tests}
use Rattle.std.specs.FinMap.{get, insert, remove}
use Rattle.server_life.specs.declared.life.Life.{Life}
use Rattle.server_life.specs.declared.life.LifeEvent.{LifeEvent}
use Rattle.server_life.specs.declared.life.LifeEvent.TheVariants.{EndUnkept}
use Rattle.server_life.specs.declared.life.LifeRefusal.{LifeRefusal}
use Rattle.server_life.specs.declared.life.Phase.{Phase}
use Rattle.server_life.specs.declared.life.Phase.TheVariants.{Stopped, Adopting, Spawning, Routing, Ready, Unrouting, Stopping, Parked}
use Rattle.server_life.specs.declared.life.Todo.{Todo}
use Rattle.server_life.specs.LifeTable.{life_after}
use Rattle.server_life.specs.Lives.{is_outcome}
use Rattle.server_life.specs.Owed.{owed as owed_in}
use Rattle.hub_lives.specs.declared.lives.Leased.{Leased}
use Rattle.hub_lives.specs.Lives.{Lives, LifeStep, owed_by, step_of, step_at, leased_to}
use Rattle.hub_lives.proofs.Found.{some_is}
use Rattle.hub_lives.proofs.Sums.{without, with, owed_few}
use Rattle.hub_machine.specs.State.{Hub, IsBounded, most, owed}
use Rattle.hub_machine.specs.Apply.{effect, moved, stepped, of_lease, lived, cost_of, is_past}
use Rattle.hub_machine.specs.Batches.{batch_cost}
use Rattle.hub_machine.specs.Carry.{has_commit}
use Rattle.hub_machine.specs.Steps.{is_end, noted_event, KeptAs}
use Rattle.hub_machine.specs.declared.step.Kept.{Kept as EndKept}
use Rattle.hub_machine.specs.declared.step.Kept.TheVariants as Of
use Rattle.hub_machine.specs.declared.change.Change.{Change}
use Rattle.hub_machine.specs.declared.change.Change.TheVariants.{Rows, Begin, Life as Lived}
use Rattle.hub_machine.proofs.Bounds.{past_by, more_owed, true_false}
use Rattle.hub_machine.proofs.LifeLines.{unkept_too}
use Rattle.hub_machine.proofs.Pieces.{step_taken}

-- ---- a step that is taken

pub record IsTaken (lives : Lives) (g : ℕ) (event : LifeEvent) (made : Life × Todo) : Type 0 where
  pub lease : Leased
  pub there : get lives g ≡ Some lease
  pub after : life_after lease.life g event ≡ Ok made

pub taken : (lives : Lives) (g : ℕ) (event : LifeEvent) (made : Life × Todo) → Ok made ≡ step_at lives g event → IsTaken lives g event made
taken lives g event made h = by (get lives g) refl h
  where
    by : (o : Option Leased) → get lives g ≡ o → Ok made ≡ step_of o g event → IsTaken lives g event made
    by None e h = cc
    by (Some l) e h = record { lease = l; there = e; after = sym h }

pub made_of : (lives : Lives) (g : ℕ) (event : LifeEvent) → IsOk (step_at lives g event) → (made : Life × Todo) × IsTaken lives g event made
made_of lives g event h = by (step_at lives g event) refl h
  where
    by : (r : LifeStep) → step_at lives g event ≡ r → IsOk r → (made : Life × Todo) × IsTaken lives g event made
    by (Ok made) e h = (made, taken lives g event made (sym e))
    by (Err why) e h = cc

-- of a row that is looked up
pub of_row : (lives : Lives) (g : ℕ) (event : LifeEvent) (made : Life × Todo) (l : Leased) → Some l ≡ get lives g → IsTaken lives g event made → life_after l.life g event ≡ Ok made
of_row lives g event made l is t = ap (λ (x : Leased). life_after x.life g event) (some_is l t.lease (is ∙ t.there)) ∙ t.after

-- where an end may come, it may also be noted as not kept
pub unkept_may : (lives : Lives) (g : ℕ) (event : LifeEvent) → is_end event ≡ true → IsOk (step_at lives g event) → IsOk (step_at lives g EndUnkept)
unkept_may lives g event o h = by (get lives g) h
  where
    by : (x : Option Leased) → IsOk (step_of x g event) → IsOk (step_of x g EndUnkept)
    by None h = cc
    by (Some l) h = unkept_too l.life g event o h

-- ---- what is owed then

owed_moved : (g : ℕ) (l : Leased) (life : Life) (phase : Phase) (s : Hub) → life.phase ≡ phase → owed (moved g l life phase s).lives ≡ owed_in phase + owed (remove s.lives g)
owed_moved g l life Stopped s e = omega arith
owed_moved g l life (Adopting h) s e = with s.lives g (record l { life = life }) ∙ ap (λ (ph : Phase). owed_in ph + owed (remove s.lives g)) e
owed_moved g l life (Spawning h) s e = with s.lives g (record l { life = life }) ∙ ap (λ (ph : Phase). owed_in ph + owed (remove s.lives g)) e
owed_moved g l life (Routing h) s e = with s.lives g (record l { life = life }) ∙ ap (λ (ph : Phase). owed_in ph + owed (remove s.lives g)) e
owed_moved g l life (Ready h) s e = with s.lives g (record l { life = life }) ∙ ap (λ (ph : Phase). owed_in ph + owed (remove s.lives g)) e
owed_moved g l life (Unrouting h) s e = with s.lives g (record l { life = life }) ∙ ap (λ (ph : Phase). owed_in ph + owed (remove s.lives g)) e
owed_moved g l life (Stopping h) s e = with s.lives g (record l { life = life }) ∙ ap (λ (ph : Phase). owed_in ph + owed (remove s.lives g)) e
owed_moved g l life (Parked h at) s e = with s.lives g (record l { life = life }) ∙ ap (λ (ph : Phase). owed_in ph + owed (remove s.lives g)) e

-- each outcome leaves less to come
abbrev pub Falls : Type 0
Falls = (life : Life) (g : ℕ) (event : LifeEvent) (made : Life × Todo) → is_outcome event ≡ true → life_after life g event ≡ Ok made → owed_in made.0.phase < owed_in life.phase

pub fewer : Falls → (s : Hub) (g : ℕ) (event : LifeEvent) → is_outcome event ≡ true → IsOk (step_at s.lives g event) → owed (lived g event s).lives < owed s.lives
fewer falls s g event o h =
    let m = made_of s.lives g event h in
    let t : IsTaken s.lives g event m.0 = m.1 in
    let now : owed (lived g event s).lives ≡ owed_in m.0.0.phase + owed (remove s.lives g) =
    ap (λ (u : Hub). owed u.lives) (step_taken s g event t.lease m.0 t.there t.after) ∙ owed_moved g t.lease m.0.0 m.0.0.phase s refl in
    let all : owed s.lives ≡ owed_in t.lease.life.phase + owed (remove s.lives g) = without s.lives g ∙ ap (λ (o : Option Leased). owed_by o + owed (remove s.lives g)) t.there in
    by (owed (lived g event s).lives) (owed s.lives) (owed_in m.0.0.phase) (owed_in t.lease.life.phase) (owed (remove s.lives g)) now all (falls t.lease.life g event m.0 o t.after)
  where
    by : (x y a b r : ℕ) → x ≡ a + r → y ≡ b + r → a < b → x < y
    by x y a b r p q lt = omega (arith, p, q, lt)

-- by a count that is told of both kinds of steps
pub owed_after_step : (s : Hub) (g : ℕ) (event : LifeEvent) (made : Life × Todo) (n : ℕ) → Ok made ≡ step_at s.lives g event
    → ((l : Leased) → l.life.phase ≡ made.0.phase → n ≡ owed (insert s.lives g l)) → (made.0.phase ≡ Stopped → n ≡ owed (remove s.lives g)) → n ≡ owed (lived g event s).lives
owed_after_step s g event made n e live over = by (get s.lives g) e
  where
    counted : (l : Leased) (life : Life) (phase : Phase) → life.phase ≡ phase → ((l : Leased) → l.life.phase ≡ phase → n ≡ owed (insert s.lives g l)) → (phase ≡ Stopped → n ≡ owed (remove s.lives g))
        → n ≡ owed (moved g l life phase s).lives
    counted l life Stopped e live over = over refl
    counted l life (Adopting h) e live over = live (record l { life = life }) e
    counted l life (Spawning h) e live over = live (record l { life = life }) e
    counted l life (Routing h) e live over = live (record l { life = life }) e
    counted l life (Ready h) e live over = live (record l { life = life }) e
    counted l life (Unrouting h) e live over = live (record l { life = life }) e
    counted l life (Stopping h) e live over = live (record l { life = life }) e
    counted l life (Parked h at) e live over = live (record l { life = life }) e

    by : (o : Option Leased) → Ok made ≡ step_of o g event → n ≡ owed (of_lease g event o s).lives
    by None e = cc
    by (Some l) e = counted l made.0 made.0.phase refl live over ∙ ap (λ (r : LifeStep). owed (stepped g l r s).lives) e

pub owed_as_before : (s : Hub) (g : ℕ) (event : LifeEvent) (why : LifeRefusal) → Err why ≡ step_at s.lives g event → owed s.lives ≡ owed (lived g event s).lives
owed_as_before s g event why e = by (get s.lives g) e
  where
    by : (o : Option Leased) → Err why ≡ step_of o g event → owed s.lives ≡ owed (of_lease g event o s).lives
    by None e = refl
    by (Some l) e = ap (λ (r : LifeStep). owed (stepped g l r s).lives) e

-- ---- room for it

within : (n m : ℕ) → m ≤ n → nat_lt n m ≡ false
within n m h = grind (arith, nat_tests)

pub roomy : Falls → (s : Hub) (g : ℕ) (event : LifeEvent) → IsBounded s → is_outcome event ≡ true → IsOk (step_at s.lives g event) → is_past s (Lived g event) ≡ false
roomy falls s g event t o h = by s.no_trail refl
  where
    by : (b : Bool) → s.no_trail ≡ b → past_by s (Lived g event) b ≡ false
    by true e =
        let less = fewer falls s g event o h in
        let length : s.length + owed s.lives ≤ 2 ^ 62 = t.length in
        within (2 ^ 62) (s.length + 1 + owed (effect (Lived g event) s).lives) (omega (arith, less, length))
    by false e =
        let less = fewer falls s g event o h in
        let cost : cost_of s (Lived g event) ≡ 64 = ap (λ b. if b then 0 else (64 + batch_cost [])) e in
        let room = t.within e in
        within (most s) (s.cost + cost_of s (Lived g event) + 64 * owed (effect (Lived g event) s).lives) (omega (arith, less, cost, room))

-- ---- few are owed after any change

few_moved : (g : ℕ) (s : Hub) (n : ℕ) (phase : Phase) → n ≡ owed_in phase + owed (remove s.lives g) → n ≤ owed s.lives + 4
few_moved g s n phase e =
    let all = without s.lives g in
    let few = owed_few phase in
    omega (arith, e, all, few)

pub few_after : (c : Change) (s : Hub) → owed (effect c s).lives ≤ owed s.lives + 4
few_after (Rows rows) s = omega arith
few_after (Begin g server rows) s = few_moved g s _ (Spawning g) (with s.lives g (leased_to s.pool s.lives g server))
few_after (Lived g event) s = by (get s.lives g)
  where
    on : (l : Leased) (r : LifeStep) → owed (stepped g l r s).lives ≤ owed s.lives + 4
    on l (Err why) = omega arith
    on l (Ok made) = few_moved g s _ made.0.phase (owed_moved g l made.0 made.0.phase s refl)

    by : (o : Option Leased) → owed (of_lease g event o s).lives ≤ owed s.lives + 4
    by None = omega arith
    by (Some l) = on l (life_after l.life g event)

-- ---- what is noted of a step

pub noted_may : (lives : Lives) (g : ℕ) (event : LifeEvent) (before after : ℕ) (kept : EndKept) → KeptAs (is_end event) before after kept → IsOk (step_at lives g event) → IsOk (step_at lives g (noted_event event kept))
noted_may lives g event before after kept k h = by (is_end event) refl kept k
  where
    by : (b : Bool) → is_end event ≡ b → (kept : EndKept) → KeptAs b before after kept → IsOk (step_at lives g (noted_event event kept))
    by true e Of.NotAsked k = absurd k
    by true e Of.Kept k = h
    by true e Of.KeeperFault k = unkept_may lives g event e h
    by true e Of.Memory k = unkept_may lives g event e h
    by false e Of.NotAsked k = h
    by false e Of.Kept k = absurd k
    by false e Of.KeeperFault k = absurd k
    by false e Of.Memory k = absurd k

-- ---- a change that the keeper refused

pub no_fewer : (s : Hub) (c : Change) (done : Bool) → (has_commit c ≡ false → done ≡ true) → done ≡ false → owed s.lives ≤ owed (effect c s).lives
no_fewer s (Rows rows) done calm n = omega arith
no_fewer s (Begin g server rows) done calm n = more_owed s.lives g (leased_to s.pool s.lives g server) refl
no_fewer s (Lived g event) done calm n = absurd (true_false (sym (calm refl) ∙ n))
