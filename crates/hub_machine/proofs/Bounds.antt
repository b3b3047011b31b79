-- A change for which there is room keeps a hub within its bounds.
use Rattle.std.proofs.Common.{◌≡◌, ℕ, ◌+◌, ◌*◌, ◌^◌, ◌≤◌, Bool, true, false, nat_lt, List, Option, Some, None, Ok, Err, refl, sym, ap, subst, ◌∙◌, arith}
use Rattle.std.specs.Prelude.{max, length, if◌then◌else◌}
use Rattle.std.proofs.lemmas.Bool.Decides.{nat_tests}
use Rattle.std.specs.FinMap.{get, insert}
use Rattle.hub_rows.specs.declared.changes.RowChange.{RowChange}
use Rattle.hub_rows.specs.declared.limits.Limits.{Limits}
use Rattle.hub_tables.specs.Changes.{rows_done, puts_of, removals_of}
use Rattle.hub_tables.specs.State.{State}
use Rattle.hub_tables.proofs.RowsAt.{rows_fixed}
use Rattle.server_life.specs.declared.life.Life.{Life}
use Rattle.server_life.specs.declared.life.LifeEvent.{LifeEvent}
use Rattle.server_life.specs.declared.life.Phase.{Phase}
use Rattle.server_life.specs.declared.life.Phase.TheVariants.{Stopped, Adopting, Spawning, Routing, Ready, Unrouting, Stopping, Parked}
use Rattle.server_life.specs.LifeTable.{life_after}
use Rattle.server_life.specs.Owed.{owed as owed_in}
use Rattle.hub_lives.specs.declared.lives.Leased.{Leased}
use Rattle.hub_lives.specs.Lives.{Lives, LifeStep, owed_by}
use Rattle.hub_lives.proofs.Sums.{without, with, owed_few}
use Rattle.hub_machine.specs.State.{Hub, IsBounded, most, owed}
use Rattle.hub_machine.specs.Apply.{apply, effect, moved, stepped, of_lease, change_done, end_rows, cost_of, rows_of, is_past, is_past_trail}
use Rattle.hub_machine.specs.Batches.{batch_cost}
use Rattle.hub_machine.specs.declared.change.Change.{Change}
use Rattle.hub_machine.specs.declared.change.Change.TheVariants.{Rows, Begin, Life as Lived}

pub change_limits : (rows : List RowChange) (t : State) → (change_done rows t).limits ≡ t.limits
change_limits rows t = (rows_fixed (removals_of rows) (rows_done (puts_of rows) t)).0 ∙ (rows_fixed (puts_of rows) t).0

not_past : (n m : ℕ) → nat_lt n m ≡ false → m ≤ n
not_past n m h = grind (arith, nat_tests)

pub true_false : true ≡ false → ⊥
true_false e = cc

-- ---- what no change touches

abbrev pub IsFixed : Hub → Hub → Type 0
IsFixed s u = (u.tables.limits ≡ s.tables.limits) × (u.no_trail ≡ s.no_trail) × (u.pool ≡ s.pool)

moved_fixed : (g : ℕ) (l : Leased) (life : Life) (phase : Phase) (s : Hub) → IsFixed s (moved g l life phase s)
moved_fixed g l life Stopped s = (change_limits (end_rows s.tables l) s.tables, refl, refl)
moved_fixed g l life (Adopting h) s = (refl, refl, refl)
moved_fixed g l life (Spawning h) s = (refl, refl, refl)
moved_fixed g l life (Routing h) s = (refl, refl, refl)
moved_fixed g l life (Ready h) s = (refl, refl, refl)
moved_fixed g l life (Unrouting h) s = (refl, refl, refl)
moved_fixed g l life (Stopping h) s = (refl, refl, refl)
moved_fixed g l life (Parked h at) s = (refl, refl, refl)

step_fixed : (g : ℕ) (l : Leased) (step : LifeStep) (s : Hub) → IsFixed s (stepped g l step s)
step_fixed g l (Err e) s = (refl, refl, refl)
step_fixed g l (Ok next) s = moved_fixed g l next.0 next.0.phase s

lease_fixed : (g : ℕ) (event : LifeEvent) (o : Option Leased) (s : Hub) → IsFixed s (of_lease g event o s)
lease_fixed g event None s = (refl, refl, refl)
lease_fixed g event (Some l) s = step_fixed g l (life_after l.life g event) s

pub effect_fixed : (c : Change) (s : Hub) → IsFixed s (effect c s)
effect_fixed (Rows rows) s = (change_limits rows s.tables, refl, refl)
effect_fixed (Begin g server rows) s = (change_limits rows s.tables, refl, refl)
effect_fixed (Lived g event) s = lease_fixed g event (get s.lives g) s

-- ---- the bounds

abbrev pub past_by : Hub → Change → Bool → Bool
past_by s c b = if b then nat_lt (2 ^ 62) (s.length + 1 + owed (effect c s).lives) else nat_lt (most s) (s.cost + cost_of s c + 64 * owed (effect c s).lives)

abbrev past_in_trail : Hub → Change → Bool → Bool
past_in_trail s c b = if b then nat_lt (2 ^ 62) (s.length + 1 + owed (effect c s).lives) else nat_lt s.tables.limits.trail_bytes (s.cost + cost_of s c + 64 * owed (effect c s).lives)

no_more : (n m k : ℕ) → n ≤ m → nat_lt n k ≡ false → nat_lt m k ≡ false
no_more n m k le h = grind (arith, nat_tests)

-- what fits the limit is within what a history may cost
pub in_trail : (s : Hub) (c : Change) → is_past_trail s c ≡ false → is_past s c ≡ false
in_trail s c h = by s.no_trail refl
  where
    by : (b : Bool) → s.no_trail ≡ b → is_past s c ≡ false
    by true e = ap (past_by s c) e ∙ sym (ap (past_in_trail s c) e) ∙ h
    by false e = ap (past_by s c) e ∙ no_more s.tables.limits.trail_bytes (most s) (s.cost + cost_of s c + 64 * owed (effect c s).lives) (omega arith) (sym (ap (past_in_trail s c) e) ∙ h)

short : (s : Hub) (c : Change) → s.no_trail ≡ true → is_past s c ≡ false → s.length + 1 + owed (effect c s).lives ≤ 2 ^ 62
short s c e h = not_past _ _ (subst (λ b. past_by s c b ≡ false) e h)

within : (s : Hub) (c : Change) → s.no_trail ≡ false → is_past s c ≡ false → s.cost + (64 + batch_cost (rows_of c)) + 64 * owed (effect c s).lives ≤ most s
within s c e h = subst (λ n. s.cost + n + 64 * owed (effect c s).lives ≤ most s) (ap (λ b. if b then 0 else (64 + batch_cost (rows_of c))) e) (not_past _ _ (subst (λ b. past_by s c b ≡ false) e h))

most_same : (s u : Hub) → IsFixed s u → most u ≡ most s
most_same s u fixed = λ i. max (fixed.0 i).trail_bytes (256 * length (fixed.2 i))

bounded : (s : Hub) (c : Change) (b : Bool) → s.no_trail ≡ b → IsBounded s → is_past s c ≡ false → IsBounded (apply c s)
bounded s c true e t h =
    let fixed = effect_fixed c s in
    let few = short s c e h in record {
      length = omega (arith, few);
      counted = λ f. absurd (true_false (sym e ∙ sym fixed.1 ∙ f));
      within = λ f. absurd (true_false (sym e ∙ sym fixed.1 ∙ f));
      limit = subst (λ (l : ℕ). l ≤ 2 ^ 62) (sym (most_same s (effect c s) fixed)) t.limit;
    }
bounded s c false e t h =
    let fixed = effect_fixed c s in
    let room = within s c e h in
    let counted : s.length ≤ s.cost = t.counted e in
    let top : most s ≤ 2 ^ 62 = t.limit in
    let cost : cost_of s c ≡ 64 + batch_cost (rows_of c) = ap (λ b. if b then 0 else (64 + batch_cost (rows_of c))) e in
    let bytes : most (effect c s) ≡ most s = most_same s (effect c s) fixed in record {
      length = omega (arith, room, counted, top);
      counted = λ f. omega (arith, counted, cost);
      within = λ f. omega (arith, room, cost, bytes);
      limit = omega (arith, top, bytes);
    }

pub bounded_after : (s : Hub) (c : Change) → IsBounded s → is_past s c ≡ false → IsBounded (apply c s)
bounded_after s c t h = bounded s c s.no_trail refl t h

-- an entry for which there is room costs no more than the limit
pub cost_fits : (s : Hub) (c : Change) → s.no_trail ≡ false → IsBounded s → is_past s c ≡ false → 64 + batch_cost (rows_of c) ≤ 2 ^ 62
cost_fits s c e t h =
    let room = within s c e h in
    let top : most s ≤ 2 ^ 62 = t.limit in
    omega (arith, room, top)

-- and what is owed after it is few
pub few_owed : (s : Hub) (c : Change) → IsBounded s → is_past s c ≡ false → owed (effect c s).lives ≤ 2 ^ 62
few_owed s c t h = by s.no_trail refl
  where
    by : (b : Bool) → s.no_trail ≡ b → owed (effect c s).lives ≤ 2 ^ 62
    by true e = let few = short s c e h in omega (arith, few)
    by false e = let room = within s c e h in let top : most s ≤ 2 ^ 62 = t.limit in omega (arith, room, top)

-- a start leaves no fewer owed
pub more_owed : (lives : Lives) (g : ℕ) (l : Leased) → l.life.phase ≡ Spawning g → owed lives ≤ owed (insert lives g l)
more_owed lives g l e =
    let all = without lives g in
    let new = with lives g l in
    let spawning : owed_in l.life.phase ≡ 4 = ap owed_in e in
    let here : owed_by (get lives g) ≤ 4 = by (get lives g) in
    omega (arith, all, new, spawning, here)
  where
    by : (o : Option Leased) → owed_by o ≤ 4
    by None = omega arith
    by (Some l) = owed_few l.life.phase
