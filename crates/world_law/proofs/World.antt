-- Each step keeps the invariant, and each world that is reached has it.
use Rattle.std.proofs.Common.{ℕ, ◌≡◌, ◌≢◌, ◌+◌, ◌*◌, ◌<◌, ◌⊎◌, inl, inr, Bool, true, false, not, ◌&&◌, ◌||◌, List, [], ◌∷◌, Option, Some, None, Ok, refl, ap, sym, ◌∙◌, subst, arith, filter, nat_eq}
use Rattle.std.specs.Prelude.{Contains, option_map}
use Rattle.std.specs.FinMap.{FinMap, get, insert, empty, get-empty}
use Rattle.hub_kit.specs.declared.names.ServerKey.{ServerKey}
use Rattle.hub_devices.specs.declared.calls.Spawning.TheVariants as S
use Rattle.hub_devices.specs.declared.calls.Routing.TheVariants as R
use Rattle.hub_devices.specs.declared.calls.Told.TheVariants.{Done, Runs}
use Rattle.hub_devices.specs.declared.calls.Told.TheVariants as Tell
use Rattle.server_life.specs.declared.life.Life.{Life}
use Rattle.server_life.specs.declared.life.Phase.{Phase}
use Rattle.server_life.specs.declared.life.Phase.TheVariants.{Stopped, Adopting, Spawning, Routing, Ready, Unrouting, Stopping, Parked}
use Rattle.server_life.specs.declared.life.LifeEvent.{LifeEvent}
use Rattle.server_life.specs.declared.life.LifeEvent.TheVariants.{AskStop}
use Rattle.server_life.specs.declared.life.Todo.{Todo}
use Rattle.server_life.specs.declared.life.Todo.TheVariants.{Nothing, Start, AddRoute, DeleteRoute, StopProgram, Poll}
use Rattle.server_life.specs.LifeTable.{life_after, generation_of}
use Rattle.hub_lives.specs.declared.lives.Leased.{Leased}
use Rattle.hub_lives.specs.Lives.{Lives, at_rest, lease_of, free_target, leased_to, adopted_by}
use Rattle.hub_lives.specs.LiveServers.{LiveServers}
use Rattle.hub_lives.proofs.Found.{get_same, get_other, get_gone, get_left}
use Rattle.route_table.specs.declared.route.Route.{Route as TableRoute}
use Rattle.route_table.specs.declared.route.RouteEntry.{RouteEntry}
use Rattle.route_table.specs.Path.{segments_cmp}
use Rattle.route_table.specs.Table.{Table, PathRow, listed, route_of}
use Rattle.server_work.specs.declared.work.Kept.{Kept}
use Rattle.server_work.specs.LifeSteps.{left_of, left_in}
use Rattle.server_work.specs.Outcomes.{noted, is_end, KeptAs}
use Rattle.server_work.specs.RoutePaths.{route_path}
use Rattle.world_law.specs.Answers.{Reply, Adds as IsAddition}
use Rattle.world_law.specs.World.{Mem, What, Spawn, Route, Call, Answer, BySpawner, ByProxy, Answered, Instance, Listing, World, instance_of, take_off, without, is_route_message, work_of, call_of, owe, with_life, begun, lived}
use Rattle.world_law.specs.Steps.{Came, Takes, takes, IsReopened, Step, Run, here, then_step, IsOpened}
use Rattle.world_law.specs.Law.{HaveOwnTargets, Ends}
use Rattle.world_law.proofs.Rows.{is_clean, is_spawning, is_stopped, is_unrouted, ends, is_after_start, owes_nothing, owes_addition, owes_start, implies, use_implies, first, second, line_ok, line_is_ok, ask_ok, ask_is_ok, stays_of}
use Rattle.world_law.proofs.Tables.{Entry, entry_in, none_some, routes_in, deletion_keeps, plain_addition_keeps, addition_keeps, deletion_tells, look_keeps}
use Rattle.world_law.proofs.Facts.{Lease, Seen, call, start_of, addition, NoStart, Gone, Clean, StartOk, ToldOk, Inv}
use Rattle.world_law.proofs.Changes.{at, mem_filter, none_without, other_id, sends_less, tells_more, runs_less, runs_more, table_less, table_more, NewOk, sends_more, lives_on, frees, adopts, ready_more, listed_more, over_more, begins_so}
use Rattle.world_law.proofs.Came.{noted_so, no_start, all_gone, deletion_seen}
use Rattle.world_law.proofs.Views.{as_lease, lease_in, life_in, held_of, life_of, looked, holder, held_inserted, life_inserted, held_removed, life_removed, held_kept, the_target, target_is_free, server_is_free}

-- a lease that isn't spawning has no start on its way
not_spawning : (v : Seen) (g : ℕ) → Inv v → is_spawning (v.life g).phase ≡ false → NoStart v.sent g
not_spawning v g i f j k secret m e =
    let x : StartOk v j k = i.sent j (start_of k secret) m in
    let y : is_spawning (v.life g).phase ≡ true = subst (λ n. is_spawning (v.life n).phase ≡ true) e x.1 in
    cc

-- ---- what a step owes may go on its way

abbrev OweOk : Seen → Option What → Type 0
OweOk v None = Unit {0}
OweOk v (Some what) = NewOk v what

owes : (w : World) (o : Option What) → OweOk (looked w) o → Inv (looked w) → Inv (looked (owe o w))
owes w None x i = i
owes w (Some what) x i = sends_more (looked w) w.fresh what x i

todo_ok : (v : Seen) (g : ℕ) (l : Leased) (todo : Todo) → Inv v → v.held g ≡ Some (as_lease l) → owes_start todo ≡ false → NoStart v.sent g ⊎ (owes_nothing todo ≡ true)
    → (owes_addition todo ≡ true → is_clean (v.life g).phase ≡ false) → OweOk v (call_of (work_of g l None) todo)
todo_ok v g l Nothing i e s n c = tt
todo_ok v g l Start i e s n c = cc
todo_ok v g l AddRoute i e s n c = (
  (g, refl, i.below g (as_lease l) e, inl (as_lease l, e, refl, refl)),
  λ h b f k u q.
      let z : g ≡ h = omega (arith, q) in let y : is_clean (v.life g).phase ≡ true = subst (λ n. is_clean (v.life n).phase ≡ true) (sym z) k in let x : is_clean (v.life g).phase ≡ false = c refl in cc,
)
todo_ok v g l DeleteRoute i e s n c = tt
todo_ok v g l StopProgram i e s n c = (elim n [ inl x ↦ x | inr x ↦ cc ], i.below g (as_lease l) e)
todo_ok v g l Poll i e s n c = tt

-- ---- a life moves

abbrev moved : ℕ → Leased → Option Life → World → World
moved g l o w = record w { live = record w.live { lives = with_life g l o w.live.lives } }

left_live : (ph : Phase) (life : Life) → is_stopped ph ≡ false → left_in ph life ≡ Some life
left_live Stopped life h = cc
left_live (Adopting h) life e = refl
left_live (Spawning h) life e = refl
left_live (Routing h) life e = refl
left_live (Ready h) life e = refl
left_live (Unrouting h) life e = refl
left_live (Stopping h) life e = refl
left_live (Parked h at) life e = refl

left_none : (ph : Phase) (life : Life) → is_stopped ph ≡ true → left_in ph life ≡ None
left_none Stopped life h = refl
left_none (Adopting h) life e = cc
left_none (Spawning h) life e = cc
left_none (Routing h) life e = cc
left_none (Ready h) life e = cc
left_none (Unrouting h) life e = cc
left_none (Stopping h) life e = cc
left_none (Parked h at) life e = cc

-- a step after which the lease still stands
goes_on : (w : World) (g : ℕ) (l : Leased) (made : Life × Todo) → get w.live.lives g ≡ Some l → is_stopped made.0.phase ≡ false → generation_of made.0.phase ≡ Some g
    → (is_clean made.0.phase ≡ true → Clean (looked w).table w.sent w.were_ready (as_lease l) g)
    → NoStart w.sent g ⊎ (is_spawning made.0.phase ≡ true) → owes_start made.1 ≡ false → NoStart w.sent g ⊎ (owes_nothing made.1 ≡ true) → (owes_addition made.1 ≡ true → is_clean made.0.phase ≡ false)
    → Inv (looked w) → Inv (looked (lived g l made w))
goes_on w g l made e st own c n s m ad i =
    let lives : Lives = w.live.lives in
    let u : World = moved g l (Some made.0) w in
    let one : Inv (record (looked w) { life = at (life_of lives) g made.0 }) = lives_on (looked w) g (as_lease l) made.0 (ap lease_in e) own c n i in
    let two : Inv (record (looked w) { life = life_of u.live.lives }) = subst (λ (f : ℕ → Life). Inv (record (looked w) { life = f })) (sym (life_inserted lives g (record l { life = made.0 }))) one in
    let iu : Inv (looked u) = subst (λ (f : ℕ → Option Lease). Inv (record (looked w) { held = f; life = life_of u.live.lives })) (sym (held_kept lives g l made.0 e)) two in
    let there : get u.live.lives g ≡ Some (record l { life = made.0 }) = get_same lives g (record l { life = made.0 }) in
    let io : Inv (looked (owe (call_of (work_of g l None) made.1) u)) = owes u (call_of (work_of g l None) made.1)
    (todo_ok (looked u) g l made.1 iu (ap lease_in there) s m (λ x. ap (λ (o : Option Leased). is_clean (life_in o).phase) there ∙ ad x)) iu in
    subst (λ (o : Option Life). Inv (looked (owe (call_of (work_of g l None) made.1) (moved g l o w)))) (sym (left_live made.0.phase made.0 st)) io

nothing_is : (t : Todo) → owes_nothing t ≡ true → Nothing ≡ t
nothing_is Nothing h = refl
nothing_is Start h = cc
nothing_is AddRoute h = cc
nothing_is DeleteRoute h = cc
nothing_is StopProgram h = cc
nothing_is Poll h = cc

-- a step after which it doesn't
is_over : (w : World) (g : ℕ) (l : Leased) (made : Life × Todo) → get w.live.lives g ≡ Some l → is_stopped made.0.phase ≡ true → owes_nothing made.1 ≡ true
    → Clean (looked w).table w.sent w.were_ready (as_lease l) g → Gone w.sent w.programs w.live.next g → Inv (looked w) → Inv (looked (lived g l made w))
is_over w g l made e st o c n i =
    let lives : Lives = w.live.lives in
    let u : World = moved g l None w in
    let one : Inv (record (looked w) { held = at (held_of lives) g None; life = at (life_of lives) g at_rest }) = frees (looked w) g (as_lease l) at_rest (ap lease_in e) n c i in
    let two : Inv (record (looked w) { held = at (held_of lives) g None; life = life_of u.live.lives }) = subst (λ (f : ℕ → Life). Inv (record (looked w) { held = at (held_of lives) g None; life = f })) (sym (life_removed lives g)) one in
    let iu : Inv (looked u) = subst (λ (f : ℕ → Option Lease). Inv (record (looked w) { held = f; life = life_of u.live.lives })) (sym (held_removed lives g)) two in
    subst (λ (t : Todo). Inv (looked (owe (call_of (work_of g l None) t) (moved g l (left_of made.0) w)))) (nothing_is made.1 o)
    (subst (λ (x : Option Life). Inv (looked (moved g l x w))) (sym (left_none made.0.phase made.0 st)) iu)

or_cases : (a b : Bool) → (a || b) ≡ true → (a ≡ true) ⊎ (b ≡ true)
or_cases true b h = inl refl
or_cases false b h = inr h

is_or_not : (b : Bool) → (b ≡ true) ⊎ (b ≡ false)
is_or_not true = inl refl
is_or_not false = inr refl

not_is : (b : Bool) → not b ≡ true → b ≡ false
not_is true h = cc
not_is false h = refl

life_here : (w : World) (g : ℕ) (l : Leased) → get w.live.lives g ≡ Some l → life_of w.live.lives g ≡ l.life
life_here w g l e = ap life_in e

pub own_phase : (w : World) (g : ℕ) (l : Leased) → get w.live.lives g ≡ Some l → Inv (looked w) → generation_of l.life.phase ≡ Some g
own_phase w g l e i = ap (λ (x : Life). generation_of x.phase) (sym (life_here w g l e)) ∙ i.phases g (as_lease l) (ap lease_in e)

clean_here : (w : World) (g : ℕ) (l : Leased) → get w.live.lives g ≡ Some l → Inv (looked w) → is_clean l.life.phase ≡ true → Clean (looked w).table w.sent w.were_ready (as_lease l) g
clean_here w g l e i c = i.clean g (as_lease l) (ap lease_in e) (ap (λ (x : Life). is_clean x.phase) (life_here w g l e) ∙ c)

quiet_here : (w : World) (g : ℕ) (l : Leased) → get w.live.lives g ≡ Some l → Inv (looked w) → is_spawning l.life.phase ≡ false → NoStart w.sent g
quiet_here w g l e i c = not_spawning (looked w) g i (ap (λ (x : Life). is_spawning x.phase) (life_here w g l e) ∙ c)

-- ---- the hub takes an outcome

module _ (w : World) (id g : ℕ) (l : Leased) (secret : Option (List ℕ)) (o : LifeEvent) (kept : Kept) (faults faults' : ℕ) (made : Life × Todo) (e : get w.live.lives g ≡ Some l)
    (x : Came w id (work_of g l secret) o) (k : KeptAs (is_end o) faults faults' kept) (h : life_after l.life g (noted o kept) ≡ Ok made) where
  line : line_ok l.life.phase (noted o kept) made ≡ true
  line = (line_is_ok l.life g (noted o kept) made (noted_so w id (work_of g l secret) o kept faults faults' x k).outcome h).0

  outcome_keeps : Inv (looked w) → Inv (looked (lived g l made (record w { waiting = take_off id w.waiting })))
  outcome_keeps i =
      let ph : Phase = l.life.phase in
      let event : LifeEvent = noted o kept in
      let w' : World = record w { waiting = take_off id w.waiting } in
      let both = line_is_ok l.life g event made (noted_so w id (work_of g l secret) o kept faults faults' x k).outcome h in
      let t0 : line_ok ph event made ≡ true = both.0 in
      let b1 : Bool = implies (is_clean made.0.phase) (is_clean ph || is_unrouted event) in
      let b2 : Bool = implies (is_stopped made.0.phase) (is_clean ph && (owes_nothing made.1 && ends event)) in
      let b3 : Bool = implies (ends event) (is_stopped made.0.phase) in
      let b4 : Bool = not (is_spawning made.0.phase) in
      let b5 : Bool = implies (is_spawning ph) (is_after_start event) in
      let b6 : Bool = implies (owes_addition made.1) (not (is_clean made.0.phase)) in
      let b7 : Bool = not (owes_start made.1) in
      let r1 : (b2 && (b3 && (b4 && (b5 && (b6 && b7))))) ≡ true = second b1 (b2 && (b3 && (b4 && (b5 && (b6 && b7))))) t0 in
      let r2 : (b3 && (b4 && (b5 && (b6 && b7)))) ≡ true = second b2 (b3 && (b4 && (b5 && (b6 && b7)))) r1 in
      let r3 : (b4 && (b5 && (b6 && b7))) ≡ true = second b3 (b4 && (b5 && (b6 && b7))) r2 in
      let r4 : (b5 && (b6 && b7)) ≡ true = second b4 (b5 && (b6 && b7)) r3 in
      let r5 : (b6 && b7) ≡ true = second b5 (b6 && b7) r4 in
      let t1 : b1 ≡ true = first b1 (b2 && (b3 && (b4 && (b5 && (b6 && b7))))) t0 in
      let t2 : b2 ≡ true = first b2 (b3 && (b4 && (b5 && (b6 && b7)))) r1 in
      let t5 : b5 ≡ true = first b5 (b6 && b7) r4 in
      let t6 : b6 ≡ true = first b6 b7 r5 in
      let t7 : b7 ≡ true = second b6 b7 r5 in
      let told : (n : ℕ) (what : What) (answer : Answer) → Mem w.told (record { call = call n what; answer = answer }) → ToldOk (looked w) what answer = i.told in
      let nostart : NoStart w.sent g = elim (is_or_not (is_spawning ph)) [
        | inl y ↦ no_start (looked w) w told id g l secret o kept faults faults' x k (use_implies (is_spawning ph) (is_after_start event) t5 y)
        | inr y ↦ quiet_here w g l e i y
      ] in
      elim (is_or_not (is_stopped made.0.phase)) [
        | inl y ↦ (
            let z : (is_clean ph && (owes_nothing made.1 && ends event)) ≡ true = use_implies (is_stopped made.0.phase) (is_clean ph && (owes_nothing made.1 && ends event)) t2 y in
            let z2 : (owes_nothing made.1 && ends event) ≡ true = second (is_clean ph) (owes_nothing made.1 && ends event) z in
            is_over w' g l made e y (first (owes_nothing made.1) (ends event) z2) (clean_here w g l e i (first (is_clean ph) (owes_nothing made.1 && ends event) z))
            (all_gone (looked w) w told id g l secret o kept faults faults' x k (second (owes_nothing made.1) (ends event) z2)) i)
        | inr y ↦ goes_on w' g l made e y (stays_of ph made.0.phase both.1 y ∙ own_phase w g l e i)
            (λ c. elim (or_cases (is_clean ph) (is_unrouted event) (use_implies (is_clean made.0.phase) (is_clean ph || is_unrouted event) t1 c)) [
              | inl z ↦ clean_here w g l e i z
              | inr z ↦ inr (deletion_seen (looked w) w told id g l secret o kept faults faults' x k z)
            ])
            (inl nostart) (not_is (owes_start made.1) t7) (inl nostart)
            (λ c. not_is (is_clean made.0.phase) (use_implies (owes_addition made.1) (not (is_clean made.0.phase)) t6 c)) i
      ]

takes_keeps : (w v : World) (g : ℕ) (e : LifeEvent) → Takes w g e v → Inv (looked w) → Inv (looked v)
takes_keeps u v j d (takes {w} id g l secret o kept faults faults' made e x k h) i = outcome_keeps w id g l secret o kept faults faults' made e x k h i

-- ---- the hub is asked for a stop

ask_keeps : (w : World) (g : ℕ) (l : Leased) (made : Life × Todo) → get w.live.lives g ≡ Some l → life_after l.life g AskStop ≡ Ok made → Inv (looked w) → Inv (looked (lived g l made w))
ask_keeps w g l made e h i =
    let ph : Phase = l.life.phase in
    let both = ask_is_ok l.life g made h in
    let t0 : ask_ok ph made ≡ true = both.0 in
    let b1 : Bool = implies (is_clean made.0.phase) (is_clean ph) in
    let b2 : Bool = not (is_stopped made.0.phase) in
    let b3 : Bool = implies (is_spawning ph) (is_spawning made.0.phase) in
    let b4 : Bool = not (owes_addition made.1) in
    let b5 : Bool = not (owes_start made.1) in
    let b6 : Bool = implies (is_spawning made.0.phase) (owes_nothing made.1) in
    let r1 : (b2 && (b3 && (b4 && (b5 && b6)))) ≡ true = second b1 (b2 && (b3 && (b4 && (b5 && b6)))) t0 in
    let r2 : (b3 && (b4 && (b5 && b6))) ≡ true = second b2 (b3 && (b4 && (b5 && b6))) r1 in
    let r3 : (b4 && (b5 && b6)) ≡ true = second b3 (b4 && (b5 && b6)) r2 in
    let r4 : (b5 && b6) ≡ true = second b4 (b5 && b6) r3 in
    let t1 : b1 ≡ true = first b1 (b2 && (b3 && (b4 && (b5 && b6)))) t0 in
    let t2 : b2 ≡ true = first b2 (b3 && (b4 && (b5 && b6))) r1 in
    let t3 : b3 ≡ true = first b3 (b4 && (b5 && b6)) r2 in
    let t4 : b4 ≡ true = first b4 (b5 && b6) r3 in
    let t5 : b5 ≡ true = first b5 b6 r4 in
    let t6 : b6 ≡ true = second b5 b6 r4 in
    let st : is_stopped made.0.phase ≡ false = not_is (is_stopped made.0.phase) t2 in
    goes_on w g l made e st (stays_of ph made.0.phase both.1 st ∙ own_phase w g l e i) (λ c. clean_here w g l e i (use_implies (is_clean made.0.phase) (is_clean ph) t1 c))
    (elim (is_or_not (is_spawning ph)) [
      | inl x ↦ inr (use_implies (is_spawning ph) (is_spawning made.0.phase) t3 x)
      | inr x ↦ inl (quiet_here w g l e i x)
    ])
    (not_is (owes_start made.1) t5)
    (elim (is_or_not (is_spawning ph)) [
      | inl x ↦ inr (use_implies (is_spawning made.0.phase) (owes_nothing made.1) t6 (use_implies (is_spawning ph) (is_spawning made.0.phase) t3 x))
      | inr x ↦ inl (quiet_here w g l e i x)
    ])
    (λ c. (let z : owes_addition made.1 ≡ false = not_is (owes_addition made.1) t4 in cc)) i

-- ---- a lease begins

begins_keep : (w : World) (server : ServerKey) (secret : List ℕ) → lease_of w.live.lives server ≡ None → free_target w.live.pool w.live.lives ≢ None → Inv (looked w) → Inv (looked (begun server secret w))
begins_keep w server secret rests free i =
    let lives : Lives = w.live.lives in
    let next : ℕ = w.live.next in
    let new : Leased = leased_to w.live.pool lives next server in
    let target : List ℕ = the_target w.live.pool lives in
    let t = target_is_free w.live.pool lives free in
    let s = server_is_free lives server (λ g h a b e f q. i.servers g h (as_lease a) (as_lease b) (ap lease_in e) (ap lease_in f) q) rests in
    let more = call w.fresh (start_of (record { generation = next; server = server; target = target }) secret) ∷ w.sent in
    let one : Inv (record (looked w) { next = next + 1; held = at (held_of lives) next (Some (as_lease new)); life = at (life_of lives) next new.life; sent = more }) =
    begins_so (looked w) w.fresh server target secret
    (λ g a e q. let o = holder lives g a e in s g o.0 o.1 (ap (λ (x : Lease). x.server) o.2 ∙ q))
    (λ g a e q. let o = holder lives g a e in t.1 g o.0 o.1 (ap (λ (x : Lease). x.target) o.2 ∙ q)) t.0 i in
    let two : Inv (record (looked w) { next = next + 1; held = at (held_of lives) next (Some (as_lease new)); life = life_of (insert lives next new); sent = more }) =
    subst (λ (f : ℕ → Life). Inv (record (looked w) { next = next + 1; held = at (held_of lives) next (Some (as_lease new)); life = f; sent = more })) (sym (life_inserted lives next new)) one in
    subst (λ (f : ℕ → Option Lease). Inv (record (looked w) { next = next + 1; held = f; life = life_of (insert lives next new); sent = more })) (sym (held_inserted lives next new)) two

-- ---- the spawner and the proxy

-- the one start of a generation, once it is off its way
lone_start : (v : Seen) (id : ℕ) (i : Instance) (secret : List ℕ) → Mem v.sent (call id (start_of i secret)) → Inv v → NoStart (take_off id v.sent) i.generation × (i.generation < v.next)
lone_start v id k secret m i =
    let ok : StartOk v id k = i.sent id (start_of k secret) m in (
      λ j h l n z. other_id id v.sent (call j (start_of h l)) n (ok.3 j h l (mem_filter (λ (c : Call). not (nat_eq c.id id)) v.sent (call j (start_of h l)) n).0 z),
      i.below k.generation (record { server = k.server; target = k.target }) ok.0,
    )

fewer : (id : ℕ) (calls : List Call) (c : Call) → Mem (take_off id calls) c → Mem calls c
fewer id calls c m = (mem_filter (λ (x : Call). not (nat_eq x.id id)) calls c m).0

-- a call is off its way, and answered
told_keeps : (v : Seen) (id : ℕ) (what : What) (answer : Answer) → ToldOk (record v { sent = take_off id v.sent }) what answer → Inv v
    → Inv (record v { sent = take_off id v.sent; told = record { call = call id what; answer = answer } ∷ v.told })
told_keeps v id what answer x i = tells_more (record v { sent = take_off id v.sent }) id what answer x (sends_less v (take_off id v.sent) (fewer id v.sent) i)

addition_at : (w : World) (id : ℕ) (path : List ℕ) (entry : RouteEntry) (now : ℕ) (reply : Reply) (table : Table) (o : Option ℕ) → entry.serial ≡ o
    → Mem w.sent (call id (Route (R.Add path entry.target o))) → IsAddition w.table path entry now reply table → Inv (looked w) → Inv (record (looked w) { table = routes_in table.rows })
addition_at w id path entry now reply table None q m a i = table_less (looked w) (routes_in table.rows) (plain_addition_keeps w.table path entry now reply table q a) i
addition_at w id path entry now reply table (Some s) q m a i = elim (addition_keeps w.table path entry now reply table s q a) [
  | inl h ↦ table_less (looked w) (routes_in table.rows) h i
  | inr h ↦ table_more (looked w) (routes_in table.rows) id path entry.target s m h i
]

-- ---- opening again

no_start_filtered : (calls : List Call) (id : ℕ) (i : Instance) (secret : List ℕ) → Mem (filter is_route_message calls) (call id (start_of i secret)) → ⊥
no_start_filtered calls id i secret m = let z : false ≡ true = (mem_filter is_route_message calls (call id (start_of i secret)) m).1 in cc

lease_adopted : (g : ℕ) (o : Option Leased) → lease_in (option_map (λ (l : Leased). adopted_by l.server l.target g) o) ≡ lease_in o
lease_adopted g None = refl
lease_adopted g (Some l) = refl

reopen_keeps : (w : World) (live : LiveServers) → IsReopened w.live live → Inv (looked w) → Inv (looked (record w { live = live; waiting = []; sent = filter is_route_message w.sent }))
reopen_keeps w live a i =
    let old : Lives = w.live.lives in
    let new : Lives = live.lives in
    let same : held_of new ≡ held_of old = λ j g. (ap lease_in (a.adopted g) ∙ lease_adopted g (get old g)) j in
    let sent : List Call = filter is_route_message w.sent in
    let less : Inv (record (looked w) { sent = sent }) = sends_less (looked w) sent (λ c m. (mem_filter is_route_message w.sent c m).0) i in
    let one : Inv (record (looked w) { pool = live.pool; next = live.next; life = life_of new; sent = sent }) =
    adopts (record (looked w) { sent = sent }) live.pool live.next (life_of new)
    (λ g x e. let n = holder new g x (ap (λ (f : ℕ → Option Lease). f g) same ∙ e) in subst (λ (y : Lease). Contains live.pool y.target) n.2 (a.pooled g n.0 n.1))
    a.next
    (λ g x e. let o = holder old g x e in
    let q : get new g ≡ Some (adopted_by o.0.server o.0.target g) = a.adopted g ∙ ap (option_map (λ (l : Leased). adopted_by l.server l.target g)) o.1 in
    (ap (λ (y : Option Leased). generation_of (life_in y).phase) q, ap (λ (y : Option Leased). is_clean (life_in y).phase) q))
    (no_start_filtered w.sent) less in
    subst (λ (f : ℕ → Option Lease). Inv (record (looked w) { pool = live.pool; next = live.next; held = f; life = life_of new; sent = sent })) (sym same) one

-- ---- each step

ready_not_clean : (w : World) (g : ℕ) (l : Leased) (h : ℕ) → get w.live.lives g ≡ Some l → l.life.phase ≡ Ready g → is_clean (life_of w.live.lives h).phase ≡ true → g ≢ h
ready_not_clean w g l h e r c q =
    let z : is_clean (life_of w.live.lives g).phase ≡ true = subst (λ n. is_clean (life_of w.live.lives n).phase ≡ true) (sym q) c in
    let y : is_clean (life_of w.live.lives g).phase ≡ false = ap (λ (x : Life). is_clean x.phase) (life_here w g l e) ∙ ap is_clean r in cc

pub half : (g h : ℕ) → 2 * g ≡ 2 * h → g ≡ h
half g h q = omega (arith, q)

pub entry_listed : (t : Table) (path : List (List ℕ)) (r : TableRoute) → listed t.rows path ≡ Some r
    → (routes_in t.rows).route path ≡ Some (record { target = r.entry.target; serial = r.entry.serial })
entry_listed t path r e = ap entry_in e

pub step_keeps : (w v : World) → Step w v → Inv (looked w) → Inv (looked v)
step_keeps w v (Step.begin server secret rests free) i = begins_keep w server secret rests free i
step_keeps w v (Step.ask_stop g l made e h) i = ask_keeps w g l made e h i
step_keeps w v (Step.take {w = a} {v = b} {g} {event} t) i = takes_keeps a b g event t i
step_keeps w v (Step.start_done id k secret m) i =
    tells_more (record (looked w) { programs = k ∷ w.programs; sent = take_off id w.sent }) id (start_of k secret) (BySpawner Done) (lone_start (looked w) id k secret m i) (runs_more (looked w) id k secret m i)
step_keeps w v (Step.start_failed id k secret m) i =
    let n = lone_start (looked w) id k secret m i in
    told_keeps (record (looked w) { programs = without k.generation w.programs }) id (start_of k secret) (BySpawner Tell.Failed) (n.0, none_without k.generation w.programs, n.1)
    (runs_less (looked w) (λ (p : Instance). not (nat_eq p.generation k.generation)) i)
step_keeps w v (Step.stop_done id g t m) i =
    let n = i.sent id (Spawn (S.Stop g t)) m in
    told_keeps (record (looked w) { programs = without g w.programs }) id (Spawn (S.Stop g t)) (BySpawner Done)
    ((λ j h k o. n.0 j h k (fewer id w.sent (call j (start_of h k)) o)), none_without g w.programs, n.1) (runs_less (looked w) (λ (p : Instance). not (nat_eq p.generation g)) i)
step_keeps w v (Step.stop_failed id g t m) i = told_keeps (looked w) id (Spawn (S.Stop g t)) (BySpawner Tell.Failed) tt i
step_keeps w v (Step.stop_failed_yet_gone id g t m) i =
    told_keeps (record (looked w) { programs = without g w.programs }) id (Spawn (S.Stop g t)) (BySpawner Tell.Failed) tt (runs_less (looked w) (λ (p : Instance). not (nat_eq p.generation g)) i)
step_keeps w v (Step.polled id g t b m x) i = told_keeps (looked w) id (Spawn (S.Poll g t)) (BySpawner (Runs b)) tt i
step_keeps w v (Step.poll_failed id g t m) i = told_keeps (looked w) id (Spawn (S.Poll g t)) (BySpawner Tell.Failed) tt i
step_keeps w v (Step.program_ends g) i = runs_less (looked w) (λ (p : Instance). not (nat_eq p.generation g)) i
step_keeps w v (Step.addition_arrives id path entry now reply table m a) i =
    told_keeps (record (looked w) { table = routes_in table.rows }) id (Route (R.Add path entry.target entry.serial)) (ByProxy reply) tt
    (addition_at w id path entry now reply table entry.serial refl m a i)
step_keeps w v (Step.deletion_arrives id path serial reply table m d) i =
    told_keeps (record (looked w) { table = routes_in table.rows }) id (Route (R.Delete path serial)) (ByProxy reply) (deletion_tells w.table path serial reply table d)
    (table_less (looked w) (routes_in table.rows) (deletion_keeps w.table path (Some serial) reply table d) i)
step_keeps w v (Step.sync_sees_ready g l e r) i =
    ready_more (looked w) (instance_of g l) (g, refl, i.below g (as_lease l) (ap lease_in e), inl (as_lease l, ap lease_in e, refl, refl)) (λ h c. ready_not_clean w g l h e r c) i
step_keeps w v (Step.sync_sees_listed path r serial e s) i =
    let x = i.routes path (record { target = r.entry.target; serial = r.entry.serial }) serial (entry_listed w.table path r e) s in
    listed_more (looked w) (record { path = r.path; serial = serial }) (x.0, x.1, i.below x.0 x.2.0 x.2.1) i
step_keeps w v (Step.sync_sees_over path g m n) i =
    let x = i.listed (record { path = path; serial = 2 * g }) m in
    let q : g ≡ x.0 = half g x.0 x.1 in
    over_more (looked w) (record { path = path; serial = 2 * g }) (x.0, x.1, x.2, λ a e s. let o = holder w.live.lives g a (ap (held_of w.live.lives) q ∙ e) in n o.0 o.1 (ap (λ (y : Lease). route_path y.server) o.2 ∙ s)) i
step_keeps w v (Step.sync_adds k m) i =
    sends_more (looked w) w.fresh (addition (route_path k.server) k.target (2 * k.generation)) (i.ready k m, λ h a e c u q. u.2 k m (half k.generation h q)) i
step_keeps w v (Step.sync_adds_hub path target) i = sends_more (looked w) w.fresh (Route (R.Add path target None)) tt i
step_keeps w v (Step.sync_deletes path serial m) i = sends_more (looked w) w.fresh (Route (R.Delete path (serial + 1))) tt i
step_keeps w v (Step.other_addition path entry now reply table q a) i = table_less (looked w) (routes_in table.rows) (plain_addition_keeps w.table path entry now reply table q a) i
step_keeps w v (Step.other_deletion path serial reply table d) i = table_less (looked w) (routes_in table.rows) (deletion_keeps w.table path serial reply table d) i
step_keeps w v (Step.look_up path now found table l) i = table_less (looked w) (routes_in table.rows) (look_keeps w.table path now found table l) i
step_keeps w v (Step.sees_adopting g l e r) i = i
step_keeps w v (Step.polls k m) i = owes w (Some (Spawn (S.Poll k.generation k.target))) tt i
step_keeps w v (Step.reopen live a) i = reopen_keeps w live a i

pub run_keeps : (w v : World) → Run w v → Inv (looked w) → Inv (looked v)
run_keeps w v here i = i
run_keeps w v (then_step {u = x} {v = y} {w = z} r s) i = step_keeps y z s (run_keeps x y r i)

no_route : (t : Table) (path : List (List ℕ)) (A : Type 0) (e : Entry) → t.rows ≡ empty → (routes_in t.rows).route path ≡ Some e → A
no_route t path A e h r = none_some e (sym (ap (λ (m : FinMap segments_cmp PathRow). (routes_in m).route path) h ∙ ap (λ (o : Option PathRow). entry_in (route_of o)) (get-empty segments_cmp path)) ∙ r)

pub opened_has : (w : World) → IsOpened w → Inv (looked w)
opened_has w h = record {
  below = λ g a e. let o = holder w.live.lives g a e in h.apart.below g o.0 o.1;
  targets = λ g k a b e f q. let o = holder w.live.lives g a e in let p = holder w.live.lives k b f in
      h.apart.targets g k o.0 p.0 o.1 p.1 (ap (λ (x : Lease). x.target) o.2 ∙ (q ∙ ap (λ (x : Lease). x.target) (sym p.2)));
  servers = λ g k a b e f q. let o = holder w.live.lives g a e in let p = holder w.live.lives k b f in
      h.apart.servers g k o.0 p.0 o.1 p.1 (ap (λ (x : Lease). x.server) o.2 ∙ (q ∙ ap (λ (x : Lease). x.server) (sym p.2)));
  pooled = λ g a e. let o = holder w.live.lives g a e in subst (λ (x : Lease). Contains w.live.pool x.target) o.2 (h.apart.pooled g o.0 o.1);
  phases = λ g a e. let o = holder w.live.lives g a e in ap (λ (x : Life). generation_of x.phase) (life_here w g o.0 o.1) ∙ h.apart.phases g o.0 o.1;
  exact = λ p e s r k. no_route w.table p ((looked w).table.seen p ≡ Some s) e h.table r;
  routes = λ p e s r k. none_some e (sym (ap (λ (m : FinMap segments_cmp PathRow). (routes_in m).route p) h.table ∙ ap (λ (o : Option PathRow). entry_in (route_of o)) (get-empty segments_cmp p)) ∙ r);
  clean = λ g a e c. let o = holder w.live.lives g a e in
      let z : is_clean (life_of w.live.lives g).phase ≡ false = ap (λ (x : Life). is_clean x.phase) (life_here w g o.0 o.1) ∙ ap (λ (x : Leased). is_clean x.life.phase) (h.adopting g o.0 o.1) in cc;
  sent = λ id what m. absurd (subst (λ xs. Mem xs (call id what)) h.sent m);
  told = λ id what answer m. absurd (subst (λ (xs : List Answered). Mem xs (record { call = call id what; answer = answer })) h.told m);
  ready = λ k m. absurd (subst (λ (xs : List Instance). Mem xs k) h.were_ready m);
  programs = λ p m. absurd (subst (λ (xs : List Instance). Mem xs p) h.programs m);
  apart = subst HaveOwnTargets (sym h.programs) tt;
  listed = λ x m. absurd (subst (λ (xs : List Listing). Mem xs x) h.were_listed m);
  over = λ x m. absurd (subst (λ (xs : List Listing). Mem xs x) h.were_over m);
}

-- ---- a generation that has begun and isn't leased

abbrev pub IsOver : World → ℕ → Type 0
IsOver w g = (g < w.live.next) × (get w.live.lives g ≡ None)

owe_over : (w : World) (g : ℕ) (o : Option What) → IsOver w g → IsOver (owe o w) g
owe_over w g None x = x
owe_over w g (Some what) x = x

moved_over : (w : World) (h g : ℕ) (l : Leased) (o : Option Life) → get w.live.lives h ≡ Some l → IsOver w g → IsOver (moved h l o w) g
moved_over w h g l None e x = (x.0, get_left w.live.lives h g (λ q. none_some l (sym x.1 ∙ (ap (get w.live.lives) q ∙ e))) ∙ x.1)
moved_over w h g l (Some life) e x = (x.0, get_other w.live.lives h (record l { life = life }) g (λ q. none_some l (sym x.1 ∙ (ap (get w.live.lives) q ∙ e))) ∙ x.1)

lived_over : (w : World) (h g : ℕ) (l : Leased) (made : Life × Todo) → get w.live.lives h ≡ Some l → IsOver w g → IsOver (lived h l made w) g
lived_over w h g l made e x = owe_over (moved h l (left_of made.0) w) g (call_of (work_of h l None) made.1) (moved_over w h g l (left_of made.0) e x)

takes_over : (w v : World) (h : ℕ) (e : LifeEvent) (g : ℕ) → Takes w h e v → IsOver w g → IsOver v g
takes_over u v j d n (takes {w} id g l secret o was faults faults' made e x k h) y = lived_over (record w { waiting = take_off id w.waiting }) g n l made e y

pub step_over : (w v : World) (g : ℕ) → Step w v → IsOver w g → IsOver v g
step_over w v g (Step.begin server secret rests free) x =
    let l : g < w.live.next = x.0 in (omega arith, get_other w.live.lives w.live.next (leased_to w.live.pool w.live.lives w.live.next server) g (λ q. omega (arith, l, q)) ∙ x.1)
step_over w v g (Step.ask_stop h l made e k) x = lived_over w h g l made e x
step_over w v g (Step.take {w = a} {v = b} {g = h} {event} t) x = takes_over a b h event g t x
step_over w v g (Step.start_done id k secret m) x = x
step_over w v g (Step.start_failed id k secret m) x = x
step_over w v g (Step.stop_done id h t m) x = x
step_over w v g (Step.stop_failed id h t m) x = x
step_over w v g (Step.stop_failed_yet_gone id h t m) x = x
step_over w v g (Step.polled id h t b m y) x = x
step_over w v g (Step.poll_failed id h t m) x = x
step_over w v g (Step.program_ends h) x = x
step_over w v g (Step.addition_arrives id path entry now reply table m a) x = x
step_over w v g (Step.deletion_arrives id path serial reply table m d) x = x
step_over w v g (Step.sync_sees_ready h l e r) x = x
step_over w v g (Step.sync_sees_listed path r serial e s) x = x
step_over w v g (Step.sync_sees_over path h m n) x = x
step_over w v g (Step.sync_adds k m) x = x
step_over w v g (Step.sync_adds_hub path target) x = x
step_over w v g (Step.sync_deletes path serial m) x = x
step_over w v g (Step.other_addition path entry now reply table q a) x = x
step_over w v g (Step.other_deletion path serial reply table d) x = x
step_over w v g (Step.look_up path now found table l) x = x
step_over w v g (Step.sees_adopting h l e r) x = x
step_over w v g (Step.polls k m) x = x
step_over w v g (Step.reopen live a) x =
    let l : g < w.live.next = x.0 in let le = a.next in (omega (arith, l, le), a.adopted g ∙ ap (option_map (λ (l : Leased). adopted_by l.server l.target g)) x.1)

pub run_over : (w v : World) (g : ℕ) → Run w v → IsOver w g → IsOver v g
run_over w v g here x = x
run_over w v g (then_step {u = a} {v = b} {w = c} r s) x = step_over b c g s (run_over a b g r x)

-- a run, a step and a run
pub run_on : (u v w : World) → Run u v → Run v w → Run u w
run_on u v w r here = r
run_on u v w r (then_step {u = a} {v = b} {w = c} s t) = then_step (run_on u a b r s) t

end_is : (e : LifeEvent) → Ends e → ends e ≡ true
end_is e (inl h) = ap ends h
end_is e (inr h) = ap ends h

-- an end that is noted ends the lease
pub ends_over : (w v : World) (g : ℕ) (e : LifeEvent) → Takes w g e v → Ends e → Inv (looked w) → IsOver v g
ends_over u v j d (takes {w} id g l secret o kept faults faults' made e x k h) n i =
    let ph : Phase = l.life.phase in
    let event : LifeEvent = noted o kept in
    let t0 : line_ok ph event made ≡ true = line w id g l secret o kept faults faults' made e x k h in
    let b1 : Bool = implies (is_clean made.0.phase) (is_clean ph || is_unrouted event) in
    let b2 : Bool = implies (is_stopped made.0.phase) (is_clean ph && (owes_nothing made.1 && ends event)) in
    let b3 : Bool = implies (ends event) (is_stopped made.0.phase) in
    let b4 : Bool = not (is_spawning made.0.phase) && (implies (is_spawning ph) (is_after_start event) && (implies (owes_addition made.1) (not (is_clean made.0.phase)) && not (owes_start made.1))) in
    let st : is_stopped made.0.phase ≡ true = use_implies (ends event) (is_stopped made.0.phase) (first b3 b4 (second b2 (b3 && b4) (second b1 (b2 && (b3 && b4)) t0))) (end_is event n) in
    owe_over (moved g l (left_of made.0) (record w { waiting = take_off id w.waiting })) g (call_of (work_of g l None) made.1) (
      i.below g (as_lease l) (ap lease_in e),
      subst (λ (y : Option Life). get (with_life g l y w.live.lives) g ≡ None) (sym (left_none made.0.phase made.0 st)) (get_gone w.live.lives g),
    )
