-- A life that waits goes on waiting, until an outcome of its generation comes.
use Rattle.std.proofs.Common.{◌≡◌, ◌≢◌, ℕ, Bool, true, false, if◌then◌else◌, List, [], ◌∷◌, ◌++◌, Option, Some, None, Result, Ok, Err, nat_eq, cond, refl, sym, ap, ◌∙◌, subst, arith}
use Rattle.std.proofs.lemmas.Bool.Decides.{nat_tests}
use Rattle.server_life.specs.declared.life.Phase.{Phase}
use Rattle.server_life.specs.declared.life.Phase.TheVariants.{Stopped, Adopting, Spawning, Routing, Ready, Unrouting, Stopping, Parked}
use Rattle.server_life.specs.declared.life.Life.{Life}
use Rattle.server_life.specs.declared.life.LifeEvent.{LifeEvent}
use Rattle.server_life.specs.declared.life.LifeEvent.TheVariants.{Begin, AskStop, Spawned, SpawnFailed, Routed, RouteFailed, Unrouted, UnrouteFailed, Ended, StopFailed, EndUnkept, Alive, Dead, PollFailed}
use Rattle.server_life.specs.declared.life.LifeRefusal.{LifeRefusal}
use Rattle.server_life.specs.declared.life.Todo.{Todo}
use Rattle.server_life.specs.declared.life.Todo.TheVariants.{Nothing, Start, AddRoute, DeleteRoute, StopProgram, Poll}
use Rattle.server_life.specs.LifeTable.{row, or_refused, life_after, stop_refusal, generation_of, is_generation}
use Rattle.server_work.specs.LifeSteps.{Lives, step_at, step_of, left_of, IsSet}
use Rattle.server_work.specs.Outcomes.{todo_of, is_end}
use Rattle.server_work.specs.Broken.{LifeEntry, plain, begun, event, Moves, Path, is_ask_stop, is_outcome_of, waits, Waits, HasOutcome, BrokenByOther, WaitsAfter}
use Rattle.server_work.proofs.Ranks.{line_of}

same_number : (g h : ℕ) → nat_eq g h ≡ true → g ≡ h
same_number g h e = grind (arith, nat_tests)

same_generation : (g : ℕ) (o : Option ℕ) → is_generation g o ≡ true → o ≡ Some g
same_generation g None e = absurd (cc (e))
same_generation g (Some h) e = ap Some (same_number h g e)

-- ---- a wish to stop that is taken where a chain waits leaves the phase

abbrev AskedOk : Phase → Option (Life × Todo) → Type 0
AskedOk ph None = Unit {0}
AskedOk ph (Some m) = (todo : Todo) (g : ℕ) → waits ph todo ≡ Some g → (waits m.0.phase todo ≡ Some g) × (left_of m.0 ≡ Some m.0)

asked_rows : (g : ℕ) (ph : Phase) (b : Bool) → AskedOk ph (row g ph AskStop b)
asked_rows g Stopped b = tt
asked_rows g (Adopting h) true = tt
asked_rows g (Adopting h) false = λ todo k w. (w, refl)
asked_rows g (Spawning h) true = tt
asked_rows g (Spawning h) false = λ todo k w. (w, refl)
asked_rows g (Routing h) true = tt
asked_rows g (Routing h) false = λ todo k w. (w, refl)
asked_rows g (Ready h) b = λ todo k w. absurd (cc (w))
asked_rows g (Unrouting h) b = tt
asked_rows g (Stopping h) b = tt
asked_rows g (Parked h at) b = λ todo k w. absurd (cc (w))

line_made : (line : Option (Life × Todo)) (why : LifeRefusal) (made : Life × Todo) → or_refused line why ≡ Ok made → line ≡ Some made
line_made None why made h = cc
line_made (Some m) why made h = cc

stop_line : (life : Life) (h : ℕ) (e : LifeEvent) (made : Life × Todo) → is_ask_stop e ≡ true → life_after life h e ≡ Ok made → row h life.phase AskStop life.stop_asked ≡ Some made
stop_line life h AskStop made t taken = line_made (row h life.phase AskStop life.stop_asked) (stop_refusal life.phase) made taken
stop_line life h e made t taken = absurd (cc (t))

-- ---- an entry that isn't an outcome of the generation leaves the life waiting

other_life : (g h : ℕ) (life : Option Life) (lives after : Lives) (owed : Todo) → nat_eq g h ≡ false → IsSet h life lives after → Waits lives g owed → Waits after g owed
other_life g h life lives after owed ne is w = record {
  life = w.life;
  is = is g ∙ (ap (λ (b : Bool). if b then life else lives g) ne ∙ w.is);
  at = w.at;
}

own_life : (g h : ℕ) (life : Option Life) (lives after : Lives) (made : Life) (owed : Todo) → nat_eq g h ≡ true → IsSet h life lives after → life ≡ Some made → waits made.phase owed ≡ Some g → Waits after g owed
own_life g h life lives after made owed eq is some at = record {
  life = made;
  is = is g ∙ (ap (λ (b : Bool). if b then life else lives g) eq ∙ some);
  at = at;
}

moved : (g : ℕ) (lives after : Lives) (x : LifeEntry) (owed : Todo) → Waits lives g owed → Moves lives x after → is_outcome_of g x ≡ false → Waits after g owed
moved g lives after plain owed w m free = record { life = w.life; is = m g ∙ w.is; at = w.at }
moved g lives after (begun h) owed w m free = start (nat_eq g h) refl
  where
    start : (b : Bool) → nat_eq g h ≡ b → Waits after g owed
    start true e = absurd (cc (w.is, subst (λ (k : ℕ). lives k ≡ None) (sym (same_number g h e)) m.0))
    start false e = other_life g h (Some m.1) lives after owed e m.2 w
moved g lives after (event h e) owed w m free = step (nat_eq g h) refl (is_ask_stop e) refl
  where
    step : (b : Bool) → nat_eq g h ≡ b → (s : Bool) → is_ask_stop e ≡ s → Waits after g owed
    step false ne s es = other_life g h (left_of m.0) lives after owed ne m.3 w
    step true eq false es = absurd (cc (free, ap (λ (b : Bool). if b then (if is_ask_stop e then false else true) else false) eq, ap (λ (s : Bool). if s then false else true) es))
    step true eq true es =
        let taken : life_after w.life h e ≡ Ok (m.0, m.1) = sym (ap (λ l. step_of l h e) (subst (λ (k : ℕ). lives k ≡ Some w.life) (same_number g h eq) w.is)) ∙ m.2 in
        let made = subst (AskedOk w.life.phase) (stop_line w.life h e (m.0, m.1) es taken) (asked_rows h w.life.phase w.life.stop_asked) owed g w.at in
        own_life g h (left_of m.0) lives after m.0 owed eq m.3 made.1 made.0

-- ---- where it waits, the outcome is taken

takes : (k : ℕ) (ph : Phase) (b : Bool) (o : LifeEvent) (g : ℕ) → waits ph (todo_of o) ≡ Some g → (m : Life × Todo) × (row k ph o b ≡ Some m) × (generation_of ph ≡ Some g)
takes k (Adopting h) true Alive g w = (_, refl, w)
takes k (Adopting h) false Alive g w = (_, refl, w)
takes k (Adopting h) b Dead g w = (_, refl, w)
takes k (Adopting h) b PollFailed g w = (_, refl, w)
takes k (Spawning h) true Spawned g w = (_, refl, w)
takes k (Spawning h) false Spawned g w = (_, refl, w)
takes k (Spawning h) b SpawnFailed g w = (_, refl, w)
takes k (Routing h) true Routed g w = (_, refl, w)
takes k (Routing h) false Routed g w = (_, refl, w)
takes k (Routing h) b RouteFailed g w = (_, refl, w)
takes k (Unrouting h) b Unrouted g w = (_, refl, w)
takes k (Unrouting h) b UnrouteFailed g w = (_, refl, w)
takes k (Stopping h) b Ended g w = (_, refl, w)
takes k (Stopping h) b StopFailed g w = (_, refl, w)
takes k ph b o g w = absurd (cc (w))

own_row : (b : Bool) (line : Option (Life × Todo)) (m : Life × Todo) (g : ℕ) → b ≡ true → line ≡ Some m → cond b (or_refused line LifeRefusal.NotNow) (Err (LifeRefusal.OldGeneration g)) ≡ Ok m
own_row true line m g e is = ap (λ l. or_refused l LifeRefusal.NotNow) is
own_row false line m g e is = absurd (cc (e))

own_generation : (gen : Option ℕ) (g : ℕ) → gen ≡ Some g → is_generation g gen ≡ true
own_generation gen g e = subst (λ (o : Option ℕ). is_generation g o ≡ true) (sym e) (grind (arith, nat_tests))

nothing_waits : (ph : Phase) (g : ℕ) → waits ph Nothing ≢ Some g
nothing_waits Stopped g e = cc (e)
nothing_waits (Adopting h) g e = cc (e)
nothing_waits (Spawning h) g e = cc (e)
nothing_waits (Routing h) g e = cc (e)
nothing_waits (Ready h) g e = cc (e)
nothing_waits (Unrouting h) g e = cc (e)
nothing_waits (Stopping h) g e = cc (e)
nothing_waits (Parked h at) g e = cc (e)

life_takes : (life : Life) (o : LifeEvent) (g : ℕ) → waits life.phase (todo_of o) ≡ Some g → (m : Life × Todo) × (life_after life g o ≡ Ok m)
life_takes life Begin g w = absurd (nothing_waits life.phase g w)
life_takes life AskStop g w = absurd (nothing_waits life.phase g w)
life_takes life o g w =
    let t = takes g life.phase life.stop_asked o g w in
    (t.0, own_row (is_generation g (generation_of life.phase)) (row g life.phase o life.stop_asked) t.0 g (own_generation (generation_of life.phase) g t.2) t.1)

found : (g : ℕ) (x : LifeEntry) (xs : List LifeEntry) → HasOutcome g xs → HasOutcome g (x ∷ xs)
found g x xs h = (x ∷ h.0, h.1, h.2, ap (λ ys. x ∷ ys) h.3, h.4)

choose : (g : ℕ) (x : LifeEntry) (xs : List LifeEntry) → (is_outcome_of g x ≡ false → HasOutcome g xs) → (b : Bool) → is_outcome_of g x ≡ b → HasOutcome g (x ∷ xs)
choose g x xs later true e = ([], x, xs, refl, e)
choose g x xs later false e = found g x xs (later e)

pub broken_by_other : BrokenByOther
broken_by_other lives after [] g o error w path refused =
    let t = life_takes w.life o g w.at in
    absurd (cc (sym refused ∙ (ap (λ l. step_of l g o) (path g ∙ w.is) ∙ t.1)))
broken_by_other lives after (x ∷ xs) g o error w path refused =
    choose g x xs (λ e. broken_by_other path.0 after xs g o error (moved g lives path.0 x (todo_of o) w path.1 e) path.2 refused) (is_outcome_of g x) refl

-- ---- after an outcome that owes something

abbrev WaitOk : Phase → Option (Life × Todo) → Type 0
WaitOk ph None = Unit {0}
WaitOk ph (Some m) = m.1 ≢ Nothing → (g : ℕ) → generation_of ph ≡ Some g → (waits m.0.phase m.1 ≡ Some g) × (left_of m.0 ≡ Some m.0)

wait_rows : (k : ℕ) (ph : Phase) (asked : Bool) (e : LifeEvent) → todo_of e ≢ Nothing → WaitOk ph (row k ph e asked)
wait_rows k ph asked Begin some = absurd (some refl)
wait_rows k ph asked AskStop some = absurd (some refl)
wait_rows k (Adopting h) true Alive some = λ n g e. (e, refl)
wait_rows k (Adopting h) false Alive some = λ n g e. (e, refl)
wait_rows k (Adopting h) b Dead some = λ n g e. (e, refl)
wait_rows k (Adopting h) b PollFailed some = λ n. absurd (n refl)
wait_rows k (Spawning h) true Spawned some = λ n g e. (e, refl)
wait_rows k (Spawning h) false Spawned some = λ n g e. (e, refl)
wait_rows k (Spawning h) b SpawnFailed some = λ n. absurd (n refl)
wait_rows k (Spawning h) b EndUnkept some = λ n. absurd (n refl)
wait_rows k (Routing h) true Routed some = λ n g e. (e, refl)
wait_rows k (Routing h) false Routed some = λ n. absurd (n refl)
wait_rows k (Routing h) b RouteFailed some = λ n g e. (e, refl)
wait_rows k (Unrouting h) b Unrouted some = λ n g e. (e, refl)
wait_rows k (Unrouting h) b UnrouteFailed some = λ n. absurd (n refl)
wait_rows k (Stopping h) b Ended some = λ n. absurd (n refl)
wait_rows k (Stopping h) b StopFailed some = λ n. absurd (n refl)
wait_rows k (Stopping h) b EndUnkept some = λ n. absurd (n refl)
wait_rows k ph asked e some = tt

of_lives : (life : Option Life) (g : ℕ) (o : LifeEvent) (m : Life × Todo) → todo_of o ≢ Nothing → step_of life g o ≡ Ok m → m.1 ≢ Nothing
    → (waits m.0.phase m.1 ≡ Some g) × (left_of m.0 ≡ Some m.0)
of_lives None g o m some h owes = absurd (cc (h))
of_lives (Some l) g o m some h owes =
    let line = line_of l g o m some h in
    subst (WaitOk l.phase) line.1 (wait_rows g l.phase l.stop_asked o some) owes g (same_generation g (generation_of l.phase) line.0)

pub waits_after : WaitsAfter
waits_after lives after g o made owes some taken more set =
    let r = of_lives (lives g) g o (made, owes) some taken more in
    record { life = made; is = set g ∙ own (nat_eq g g) (grind (arith, nat_tests)) r.1; at = r.0 }
  where
    own : (b : Bool) → b ≡ true → left_of made ≡ Some made → (if b then left_of made else lives g) ≡ Some made
    own true e f = f
    own false e f = absurd (cc (e))

-- ---- an outcome that ends a life owes nothing

abbrev EndOk : LifeEvent → Option (Life × Todo) → Type 0
EndOk e None = Unit {0}
EndOk e (Some m) = m.1 ≢ Nothing → is_end e ≡ false

ended_rows : (k : ℕ) (ph : Phase) (asked : Bool) → EndOk Ended (row k ph Ended asked)
ended_rows k Stopped b = tt
ended_rows k (Adopting h) b = tt
ended_rows k (Spawning h) b = tt
ended_rows k (Routing h) b = tt
ended_rows k (Ready h) b = tt
ended_rows k (Unrouting h) b = tt
ended_rows k (Stopping h) b = λ n. absurd (n refl)
ended_rows k (Parked h at) b = tt

spawn_rows : (k : ℕ) (ph : Phase) (asked : Bool) → EndOk SpawnFailed (row k ph SpawnFailed asked)
spawn_rows k Stopped b = tt
spawn_rows k (Adopting h) b = tt
spawn_rows k (Spawning h) b = λ n. absurd (n refl)
spawn_rows k (Routing h) b = tt
spawn_rows k (Ready h) b = tt
spawn_rows k (Unrouting h) b = tt
spawn_rows k (Stopping h) b = tt
spawn_rows k (Parked h at) b = tt

end_line : (l : Life) (g : ℕ) (o : LifeEvent) (m : Life × Todo) → row g l.phase o l.stop_asked ≡ Some m → m.1 ≢ Nothing → is_end o ≡ false
end_line l g Ended m line owes = absurd (cc (subst (EndOk Ended) line (ended_rows g l.phase l.stop_asked) owes))
end_line l g SpawnFailed m line owes = absurd (cc (subst (EndOk SpawnFailed) line (spawn_rows g l.phase l.stop_asked) owes))
end_line l g o m line owes = refl

end_of_life : (life : Option Life) (g : ℕ) (o : LifeEvent) (m : Life × Todo) → todo_of o ≢ Nothing → step_of life g o ≡ Ok m → m.1 ≢ Nothing → is_end o ≡ false
end_of_life None g o m some h owes = absurd (cc (h))
end_of_life (Some l) g o m some h owes = end_line l g o m (line_of l g o m some h).1 owes

pub no_end : (lives : Lives) (g : ℕ) (o : LifeEvent) (m : Life × Todo) → todo_of o ≢ Nothing → step_at lives g o ≡ Ok m → m.1 ≢ Nothing → is_end o ≡ false
no_end lives g o m some h owes = end_of_life (lives g) g o m some h owes
