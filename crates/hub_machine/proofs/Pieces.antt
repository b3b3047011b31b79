-- A machine stays of one piece through each kind of change: its bounds, the next generation, and the leases that are kept.
use Rattle.std.proofs.Common.{◌≡◌, ℕ, ◌+◌, ◌-◌, ◌<◌, ◌≤◌, ◌^◌, Bool, true, false, not, cond, List, [], ◌∷◌, Option, Some, None, Ok, refl, sym, ap, subst, ◌∙◌, arith}
use Rattle.std.specs.Prelude.{length, if◌then◌else◌}
use Rattle.std.specs.List.{list_any, find}
use Rattle.std.specs.Cmp.{nat_cmp_total}
use Rattle.std.specs.Option.{unwrap_or, is_some}
use Rattle.std.specs.FinMap.{get, contains_key, insert, remove, nat_cmp-IsAntisymmetric}
use Rattle.std.specs.declared.alloc.AllocError.{AllocError}
use Rattle.keyed_rows.proofs.Finite.{put_and_removed}
use Rattle.hub_kit.specs.declared.names.ServerKey.{ServerKey}
use Rattle.hub_rows.specs.declared.changes.RowChange.{RowChange}
use Rattle.hub_tables.specs.State.{State}
use Rattle.server_life.specs.declared.life.Life.{Life}
use Rattle.server_life.specs.declared.life.LifeEvent.{LifeEvent}
use Rattle.server_life.specs.declared.life.Phase.{Phase}
use Rattle.server_life.specs.declared.life.Phase.TheVariants.{Stopped, Adopting, Spawning, Routing, Ready, Unrouting, Stopping, Parked}
use Rattle.server_life.specs.declared.life.Todo.{Todo}
use Rattle.server_life.specs.LifeTable.{life_after, generation_of}
use Rattle.hub_lives.specs.Lives.{Lives, AreApart, is_leased, free_target, leased_to}
use Rattle.hub_lives.specs.LiveServers.{LiveServers, begins}
use Rattle.hub_lives.specs.declared.lives.Leased.{Leased}
use Rattle.hub_lives.proofs.Found.{none_some, get_same}
use Rattle.hub_machine.specs.State.{Hub, IsBounded, KeepsLeases, next_generation, opening_next}
use Rattle.hub_machine.specs.Apply.{apply, change_done, cost_of, is_past, is_past_trail, end_rows, lived, of_lease, stepped, moved}
use Rattle.hub_machine.specs.Batches.{batch_cost}
use Rattle.hub_machine.specs.Carry.{FitsBegin, BeginDone, touches_lives}
use Rattle.hub_machine.specs.declared.change.Change.{Change}
use Rattle.hub_machine.specs.declared.change.Change.TheVariants.{Rows, Begin, Life as Lived}
use Rattle.hub_machine.proofs.Bounds.{bounded_after, in_trail, effect_fixed, true_false}
use Rattle.hub_machine.proofs.KeptLeases.{kept_rows, next_rows, kept_begin, kept_life, kept_end, next_end}

abbrev pub IsPiece : Hub → (next : ℕ) → Type 0
IsPiece s next = IsBounded s × (next ≡ next_generation s.tables) × KeepsLeases s.tables s.lives × (next ≤ opening_next s.pool + s.length)

-- ---- rows alone

pub piece_rows : (s : Hub) (next : ℕ) (rows : List RowChange) → IsPiece s next → list_any touches_lives rows ≡ false → is_past_trail s (Rows rows) ≡ false → IsPiece (apply (Rows rows) s) next
piece_rows s next rows p calm room = (
  bounded_after s (Rows rows) p.0 (in_trail s (Rows rows) room),
  p.1 ∙ sym (next_rows rows s.tables calm),
  kept_rows rows s.tables s.lives calm p.2,
  let few = p.3 in omega (arith, few),
)

-- what was written down is the change
pub entered : (s : Hub) (c : Change) (rows : List RowChange) (t : State) (bytes cost : ℕ) → c ≡ Rows rows → t ≡ change_done rows s.tables → cost ≡ (if s.no_trail then 0 else (64 + bytes)) → bytes ≡ batch_cost rows
    → record s { tables = t; length = s.length + 1; cost = s.cost + cost } ≡ apply (Rows rows) s
entered s c rows t bytes cost is done paid e =
    let all : cost ≡ cost_of s (Rows rows) = paid ∙ ap (λ (n : ℕ). if s.no_trail then 0 else (64 + n)) e in
    λ i. record s { tables = done i; length = s.length + 1; cost = s.cost + all i }

-- ---- a start

not_true : (b : Bool) → not b ≡ true → b ≡ false
not_true true h = sym h
not_true false h = refl

found : (p : List ℕ → Bool) (xs : List (List ℕ)) (x : List ℕ) → find p xs ≡ Some x → p x ≡ true
found p [] x h = absurd (none_some x h)
found p (y ∷ ys) x h = elim (p y) as (λ b. p y ≡ b → cond b (Some y) (find p ys) ≡ Some x → p x ≡ true) [
  | true ↦ λ t e. ap p (sym (some_one y x e)) ∙ t
  | false ↦ λ t e. found p ys x e
] refl h
  where
    some_one : (a b : List ℕ) → Some a ≡ Some b → a ≡ b
    some_one a b e = cc

pub not_leased : (pool : List (List ℕ)) (lives : Lives) (target : List ℕ) → free_target pool lives ≡ Some target → is_leased lives target ≡ false
not_leased pool lives target h = not_true (is_leased lives target) (found (λ target. not (is_leased lives target)) pool target h)

pub no_row_yet : (pool : List (List ℕ)) (lives : Lives) (next : ℕ) → AreApart pool lives next → get lives next ≡ None
no_row_yet pool lives next apart = by (get lives next) refl
  where
    by : (o : Option Leased) → get lives next ≡ o → o ≡ None
    by None e = refl
    by (Some l) e = let lt : next < next = apart.below next l e in absurd (omega (arith, lt))

pub piece_begin : (s : Hub) (next g : ℕ) (server : ServerKey) (rows : List RowChange) (target : List ℕ) → IsPiece s next → AreApart s.pool s.lives next → FitsBegin s g server rows target
    → is_past_trail s (Begin g server rows) ≡ false → IsPiece (apply (Begin g server rows) s) (next + 1)
piece_begin s next g server rows target p apart fits room =
    let same : next ≡ g = p.1 ∙ sym fits.generation in
    let free : target ≡ (leased_to s.pool s.lives g server).target = ap (λ o. unwrap_or o []) (sym fits.free) in (
      bounded_after s (Begin g server rows) p.0 (in_trail s (Begin g server rows) room),
      ap (λ (n : ℕ). n + 1) same ∙ sym fits.raised,
      kept_begin s.tables (change_done rows s.tables) s.lives g (leased_to s.pool s.lives g server) (record { target = target; server = server; generation = Some g })
          (fits.leased ∙ ap (λ (x : List ℕ). insert s.tables.leases x (record { target = target; server = server; generation = Some g })) free) refl
          (ap (get s.lives) (sym same) ∙ no_row_yet s.pool s.lives next apart)
          (ap (is_leased s.lives) (sym free) ∙ not_leased s.pool s.lives target fits.free) p.2,
      let few = p.3 in omega (arith, few),
    )

-- a start that is taken back
pub taken_back : (server : ServerKey) (live : LiveServers) (now : LiveServers) → get live.lives live.next ≡ None
    → now ≡ record { pool = (begins server live).pool; lives = remove (begins server live).lives ((begins server live).next - 1); next = (begins server live).next - 1 } → now ≡ live
taken_back server live now new is =
    let last : live.next + 1 - 1 ≡ live.next = omega arith in
    let before : remove (insert live.lives live.next (leased_to live.pool live.lives live.next server)) live.next ≡ live.lives = put_and_removed nat_cmp_total nat_cmp-IsAntisymmetric live.lives live.next (leased_to live.pool live.lives live.next server) (ap is_some new) in
    is ∙ ap (λ (n : ℕ). record { pool = live.pool; lives = remove (insert live.lives live.next (leased_to live.pool live.lives live.next server)) n; next = n }) last
    ∙ ap (λ (m : Lives). record { pool = live.pool; lives = m; next = live.next }) before

-- its generation is live before
pub last_there : (server : ServerKey) (live now : LiveServers) → now ≡ begins server live → contains_key now.lives (now.next - 1) ≡ true
last_there server live now is =
    let last : live.next + 1 - 1 ≡ live.next = omega arith in
    subst (λ (x : LiveServers). contains_key x.lives (x.next - 1) ≡ true) (sym is)
    (ap (contains_key (insert live.lives live.next (leased_to live.pool live.lives live.next server))) last ∙ ap is_some (get_same live.lives live.next (leased_to live.pool live.lives live.next server)))

-- and nothing is left of it
pub undone : (server : ServerKey) (live made now : LiveServers) → AreApart live.pool live.lives live.next → made ≡ begins server live
    → now ≡ record { pool = made.pool; lives = remove made.lives (made.next - 1); next = made.next - 1 } → now ≡ live
undone server live made now apart is e =
    taken_back server live now (no_row_yet live.pool live.lives live.next apart) (e ∙ ap (λ (x : LiveServers). record { pool = x.pool; lives = remove x.lives (x.next - 1); next = x.next - 1 }) is)

-- ---- a step of a life

-- a life that goes on
moved_on : (g h : ℕ) (l : Leased) (life : Life) (phase : Phase) (s : Hub) → generation_of phase ≡ Some h → moved g l life phase s ≡ record s { lives = insert s.lives g (record l { life = life }) }
moved_on g h l life Stopped s e = absurd (none_some h e)
moved_on g h l life (Adopting k) s e = refl
moved_on g h l life (Spawning k) s e = refl
moved_on g h l life (Routing k) s e = refl
moved_on g h l life (Ready k) s e = refl
moved_on g h l life (Unrouting k) s e = refl
moved_on g h l life (Stopping k) s e = refl
moved_on g h l life (Parked k at) s e = refl

-- what a step makes of the hub
pub step_taken : (s : Hub) (g : ℕ) (event : LifeEvent) (l : Leased) (made : Life × Todo) → get s.lives g ≡ Some l → life_after l.life g event ≡ Ok made → lived g event s ≡ moved g l made.0 made.0.phase s
step_taken s g event l made is after = ap (λ o. of_lease g event o s) is ∙ ap (λ r. stepped g l r s) after

pub lived_on : (s : Hub) (g : ℕ) (event : LifeEvent) (l : Leased) (made : Life × Todo) → get s.lives g ≡ Some l → life_after l.life g event ≡ Ok made → generation_of made.0.phase ≡ Some g
    → lived g event s ≡ record s { lives = insert s.lives g (record l { life = made.0 }) }
lived_on s g event l made is after own = step_taken s g event l made is after ∙ moved_on g g l made.0 made.0.phase s own

pub lived_out : (s : Hub) (g : ℕ) (event : LifeEvent) (l : Leased) (made : Life × Todo) → get s.lives g ≡ Some l → life_after l.life g event ≡ Ok made → made.0.phase ≡ Stopped
    → lived g event s ≡ record s { tables = change_done (end_rows s.tables l) s.tables; lives = remove s.lives g }
lived_out s g event l made is after over = step_taken s g event l made is after ∙ ap (λ ph. moved g l made.0 ph s) over

lived_few : (s : Hub) (next g : ℕ) (event : LifeEvent) → next ≤ opening_next s.pool + s.length → next ≤ opening_next (lived g event s).pool + (s.length + 1)
lived_few s next g event few = let same = ap (λ (pool : List (List ℕ)). length pool) (effect_fixed (Lived g event) s).2 in omega (arith, few, same)

pub piece_life : (s : Hub) (next g : ℕ) (event : LifeEvent) (l : Leased) (made : Life × Todo) → IsPiece s next → get s.lives g ≡ Some l → life_after l.life g event ≡ Ok made → generation_of made.0.phase ≡ Some g
    → is_past s (Lived g event) ≡ false → IsPiece (apply (Lived g event) s) next
piece_life s next g event l made p is after own room =
    let now = lived_on s g event l made is after own in (
      bounded_after s (Lived g event) p.0 room,
      subst (λ (u : Hub). next ≡ next_generation u.tables) (sym now) p.1,
      subst (λ (u : Hub). KeepsLeases u.tables u.lives) (sym now) (kept_life s.tables s.lives g l (record l { life = made.0 }) is refl refl p.2),
      lived_few s next g event p.3,
    )

-- ---- an end

pub piece_end : (s : Hub) (next g : ℕ) (event : LifeEvent) (l : Leased) (made : Life × Todo) → IsPiece s next → AreApart s.pool s.lives next → get s.lives g ≡ Some l → life_after l.life g event ≡ Ok made → made.0.phase ≡ Stopped
    → is_past s (Lived g event) ≡ false → IsPiece (apply (Lived g event) s) next
piece_end s next g event l made p apart is after over room =
    let now = lived_out s g event l made is after over in (
      bounded_after s (Lived g event) p.0 room,
      subst (λ (u : Hub). next ≡ next_generation u.tables) (sym now) (p.1 ∙ sym (next_end s.tables l)),
      subst (λ (u : Hub). KeepsLeases u.tables u.lives) (sym now) (kept_end s.tables s.lives g l is (λ h a has at. apart.targets h g a l has is at) p.2),
      lived_few s next g event p.3,
    )

-- ---- what was written down is a start

pub entered_begin : (s : Hub) (next g : ℕ) (server : ServerKey) (rows : List RowChange) (t : State) (live : LiveServers) (bytes cost : ℕ) → next ≡ g → t ≡ change_done rows s.tables
    → live ≡ begins server (record { pool = s.pool; lives = s.lives; next = next }) → cost ≡ (if s.no_trail then 0 else (64 + bytes)) → bytes ≡ batch_cost rows
    → record s { tables = t; lives = live.lives; length = s.length + 1; cost = s.cost + cost; pool = live.pool } ≡ apply (Begin g server rows) s
entered_begin s next g server rows t live bytes cost same done begun paid e =
    let all : cost ≡ cost_of s (Begin g server rows) = paid ∙ ap (λ (n : ℕ). if s.no_trail then 0 else (64 + n)) e in
    (λ i. record s { tables = done i; lives = (begun i).lives; length = s.length + 1; cost = s.cost + all i; pool = (begun i).pool })
    ∙ ap (λ (n : ℕ). record s { tables = change_done rows s.tables; lives = insert s.lives n (leased_to s.pool s.lives n server); length = s.length + 1; cost = s.cost + cost_of s (Begin g server rows) }) same

pub piece_started : (s : Hub) (next : ℕ) (server : ServerKey) (rows : List RowChange) (t : State) (live : LiveServers) (bytes cost : ℕ) → IsPiece s next → AreApart s.pool s.lives next
    → ((target : List ℕ) × FitsBegin s (next_generation s.tables) server rows target) → is_past_trail s (Begin (next_generation s.tables) server rows) ≡ false → t ≡ change_done rows s.tables
    → live ≡ begins server (record { pool = s.pool; lives = s.lives; next = next }) → cost ≡ (if s.no_trail then 0 else (64 + bytes)) → bytes ≡ batch_cost rows
    → IsPiece (record s { tables = t; lives = live.lives; length = s.length + 1; cost = s.cost + cost; pool = live.pool }) live.next
piece_started s next server rows t live bytes cost p apart fits room done begun paid e =
    subst (λ (h : Hub). IsPiece h live.next) (sym (entered_begin s next (next_generation s.tables) server rows t live bytes cost p.1 done begun paid e))
    (subst (IsPiece (apply (Begin (next_generation s.tables) server rows) s)) (sym (ap (λ (x : LiveServers). x.next) begun))
    (piece_begin s next (next_generation s.tables) server rows fits.0 p apart fits.1 room))

-- ---- what was written down is a step of a life

-- a life that goes on
pub entered_on : (s : Hub) (next g : ℕ) (event : LifeEvent) (l : Leased) (made : Life × Todo) (live : LiveServers) (cost : ℕ) → get s.lives g ≡ Some l → life_after l.life g event ≡ Ok made
    → generation_of made.0.phase ≡ Some g → live ≡ record { pool = s.pool; lives = insert s.lives g (record l { life = made.0 }); next = next } → cost ≡ (if s.no_trail then 0 else 64)
    → record s { lives = live.lives; length = s.length + 1; cost = s.cost + cost; pool = live.pool } ≡ apply (Lived g event) s
entered_on s next g event l made live cost is after own e paid =
    (λ i. record s { lives = (e i).lives; length = s.length + 1; cost = s.cost + paid i; pool = (e i).pool })
    ∙ ap (λ (u : Hub). record u { length = s.length + 1; cost = s.cost + cost_of s (Lived g event) }) (sym (lived_on s g event l made is after own))

pub piece_on : (s : Hub) (next g : ℕ) (event : LifeEvent) (l : Leased) (made : Life × Todo) (live : LiveServers) (cost : ℕ) → IsPiece s next → get s.lives g ≡ Some l → life_after l.life g event ≡ Ok made
    → generation_of made.0.phase ≡ Some g → is_past s (Lived g event) ≡ false → live ≡ record { pool = s.pool; lives = insert s.lives g (record l { life = made.0 }); next = next }
    → cost ≡ (if s.no_trail then 0 else 64) → IsPiece (record s { lives = live.lives; length = s.length + 1; cost = s.cost + cost; pool = live.pool }) live.next
piece_on s next g event l made live cost p is after own room e paid =
    subst (λ (h : Hub). IsPiece h live.next) (sym (entered_on s next g event l made live cost is after own e paid))
    (subst (IsPiece (apply (Lived g event) s)) (sym (ap (λ (x : LiveServers). x.next) e)) (piece_life s next g event l made p is after own room))

-- an end
pub entered_out : (s : Hub) (next g : ℕ) (event : LifeEvent) (l : Leased) (made : Life × Todo) (t : State) (live : LiveServers) (cost : ℕ) → get s.lives g ≡ Some l → life_after l.life g event ≡ Ok made
    → made.0.phase ≡ Stopped → t ≡ change_done (end_rows s.tables l) s.tables → live ≡ record { pool = s.pool; lives = remove s.lives g; next = next } → cost ≡ (if s.no_trail then 0 else 64)
    → record s { tables = t; lives = live.lives; length = s.length + 1; cost = s.cost + cost; pool = live.pool } ≡ apply (Lived g event) s
entered_out s next g event l made t live cost is after over done e paid =
    (λ i. record s { tables = done i; lives = (e i).lives; length = s.length + 1; cost = s.cost + paid i; pool = (e i).pool })
    ∙ ap (λ (u : Hub). record u { length = s.length + 1; cost = s.cost + cost_of s (Lived g event) }) (sym (lived_out s g event l made is after over))

pub piece_out : (s : Hub) (next g : ℕ) (event : LifeEvent) (l : Leased) (made : Life × Todo) (t : State) (live : LiveServers) (cost : ℕ) → IsPiece s next → AreApart s.pool s.lives next → get s.lives g ≡ Some l
    → life_after l.life g event ≡ Ok made → made.0.phase ≡ Stopped → is_past s (Lived g event) ≡ false → t ≡ change_done (end_rows s.tables l) s.tables
    → live ≡ record { pool = s.pool; lives = remove s.lives g; next = next } → cost ≡ (if s.no_trail then 0 else 64)
    → IsPiece (record s { tables = t; lives = live.lives; length = s.length + 1; cost = s.cost + cost; pool = live.pool }) live.next
piece_out s next g event l made t live cost p apart is after over room done e paid =
    subst (λ (h : Hub). IsPiece h live.next) (sym (entered_out s next g event l made t live cost is after over done e paid))
    (subst (IsPiece (apply (Lived g event) s)) (sym (ap (λ (x : LiveServers). x.next) e)) (piece_end s next g event l made p apart is after over room))

-- ---- all is as before

pub same_piece : (s : Hub) (t : State) (live now : LiveServers) → IsPiece (record s { lives = live.lives; pool = live.pool }) live.next → t ≡ s.tables → now ≡ live
    → IsPiece (record s { tables = t; lives = now.lives; pool = now.pool }) now.next
same_piece s t live now p e same =
    subst (λ (x : LiveServers). IsPiece (record s { tables = t; lives = x.lives; pool = x.pool }) x.next) (sym same)
    (subst (λ (u : State). IsPiece (record s { tables = u; lives = live.lives; pool = live.pool }) live.next) (sym e) p)

pub not_begun : (server : ServerKey) (done : Bool) (live now : LiveServers) → BeginDone {E = AllocError} server (Ok done) live now → done ≡ false → now ≡ live
not_begun server true live now h e = absurd (true_false e)
not_begun server false live now h e = h

pub is_begun : (server : ServerKey) (done : Bool) (live now : LiveServers) → BeginDone {E = AllocError} server (Ok done) live now → done ≡ true → now ≡ begins server live
is_begun server true live now h e = h
is_begun server false live now h e = absurd (true_false (sym e))
