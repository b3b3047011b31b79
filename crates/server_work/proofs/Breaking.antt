-- Who breaks a chain.
use Rattle.std.proofs.Common.{◌≡◌, ◌≢◌, ⊎_elim, ℕ, ◌+◌, ◌<◌, ◌≤◌, Bool, true, false, List, [], ◌∷◌, ◌++◌, length, map, Option, Some, None, Ok, refl, sym, ap, ◌∙◌, subst, arith}
use Rattle.std.proofs.lemmas.List.{append-nil, length_push}
use mathlib.Core.List.{IsPrefix}
use Rattle.desk.specs.OwnEntries.{StandIn, Owns}
use Rattle.desk.proofs.OwnEntries.{owns_append, owns_below}
use Rattle.desk.proofs.Prefixes.{prefix_length}
use Rattle.server_life.specs.declared.life.Life.{Life}
use Rattle.server_life.specs.declared.life.LifeEvent.{LifeEvent}
use Rattle.server_life.specs.declared.life.Todo.{Todo}
use Rattle.server_life.specs.declared.life.Todo.TheVariants.{Nothing}
use Rattle.server_work.specs.declared.work.Work.{Work}
use Rattle.server_work.specs.declared.work.Kept.{Kept}
use Rattle.server_work.specs.declared.work.Kept.TheVariants as K
use Rattle.server_work.specs.LifeSteps.{Lives, step_at, left_of, IsSet}
use Rattle.server_work.specs.Outcomes.{todo_of, is_end, noted, KeptAs}
use Rattle.server_work.specs.Chains.{Sight, sight, Comes, Step, Chain, At, left_by, own, IsStep, Goes, Broke}
use Rattle.server_work.specs.Broken.{LifeEntry, Path, HasOutcome, AreEntries, Follows, WaitsAt, OthersCame, BrokenByOthers, AloneUnbroken}
use Rattle.server_work.proofs.Waiting.{broken_by_other, waits_after, no_end}
use Rattle.server_work.proofs.Gaining.{goes_begins}

as_noted : (o : LifeEvent) (m n : ℕ) (k : Kept) (b : Bool) → b ≡ false → KeptAs b m n k → noted o k ≡ o
as_noted o m n k true none keeping = absurd (cc (none))
as_noted o m n K.NotAsked false none keeping = refl
as_noted o m n K.Kept false none keeping = absurd keeping
as_noted o m n K.KeeperFault false none keeping = absurd keeping
as_noted o m n K.Memory false none keeping = absurd keeping

module _ {E A : Type 0} (reached : Option A → List E → Lives → Type 0) (notes : E → ℕ → LifeEvent → Type 0) (is_entry : E → LifeEntry → Type 0) where
  -- after a step that owes something the life waits
  step_waits : (base : Option A) (g : ℕ) (owed : Todo) (s : Step E) → IsStep reached notes base g owed s → s.owes ≢ Nothing → WaitsAt reached is_entry base (left_by s).entries g s.owes
  step_waits base g owed s is owes =
      let some : todo_of s.outcome ≢ Nothing = λ none. is.some (sym is.of ∙ none) in
      let plain : is_end s.outcome ≡ false = no_end s.lives g s.outcome (is.takes.0, s.owes) some is.takes.1 owes in
      let same : noted s.outcome s.kept ≡ s.outcome = as_noted s.outcome s.found.faults s.faults s.kept (is_end s.outcome) plain is.kept in
      record {
        lives = s.after;
        at = is.later;
        waits = waits_after s.lives s.after g s.outcome s.made s.owes some (subst (λ (e : LifeEvent). step_at s.lives g e ≡ Ok (s.made, s.owes)) same is.row) owes is.left;
      }

  owes_on : (base : Option A) (alone : Bool) (g : ℕ) (seen : Sight E) (owed : Todo) (ss : List (Step E)) (seen' : Sight E) (owed' : Todo)
      → Goes reached notes base alone g seen owed ss seen' owed' → owed' ≢ Nothing → owed ≢ Nothing
  owes_on base alone g seen owed [] seen' owed' (a, b) some = λ none. some (b ∙ none)
  owes_on base alone g seen owed (s ∷ ss) seen' owed' (a, b, rest) some = b.some

  goes_waits : (base : Option A) (alone : Bool) (g : ℕ) (seen : Sight E) (owed : Todo) (ss : List (Step E)) (seen' : Sight E) (owed' : Todo)
      → Goes reached notes base alone g seen owed ss seen' owed' → owed' ≢ Nothing
      → WaitsAt reached is_entry base seen.entries g owed → WaitsAt reached is_entry base seen'.entries g owed'
  goes_waits base alone g seen owed [] seen' owed' (a, b) some w =
      subst (λ (h : Sight E). WaitsAt reached is_entry base h.entries g owed') (sym a) (subst (λ (t : Todo). WaitsAt reached is_entry base seen.entries g t) (sym b) w)
  goes_waits base alone g seen owed (s ∷ ss) seen' owed' (a, b, rest) some w =
      goes_waits base alone g (left_by s) s.owes ss seen' owed' rest some
      (step_waits base g owed s b (owes_on base alone g (left_by s) s.owes ss seen' owed' rest some))

  goes_own : (base : Option A) (alone : Bool) (g : ℕ) (seen : Sight E) (owed : Todo) (ss : List (Step E)) (seen' : Sight E) (owed' : Todo)
      → Goes reached notes base alone g seen owed ss seen' owed' → (n : ℕ) → Owns n (map own ss) → n < length seen'.entries
  goes_own base alone g seen owed [] seen' owed' goes n o = absurd o
  goes_own base alone g seen owed (s ∷ ss) seen' owed' (a, b, rest) n o = ⊎_elim
      (λ e.
      let is : length s.found.entries ≡ n = e in
      let later = prefix_length (s.found.entries ++ s.entry ∷ []) seen'.entries (goes_begins reached notes base alone g (left_by s) s.owes ss seen' owed' rest).0 in
      omega (arith, is, later, length_push s.found.entries s.entry))
      (λ r. goes_own base alone g (left_by s) s.owes ss seen' owed' rest n r)
      o

  waited : (w : Work) (x y : At E A) (first : Todo) (k : Chain E) → WaitsAt reached is_entry x.pass.base x.pass.seen w.generation first → (b : Broke reached notes w x first k y)
      → WaitsAt reached is_entry x.pass.base b.seen.entries w.generation (todo_of b.outcome)
  waited w x y first k at b = goes_waits x.pass.base x.pass.alone w.generation (sight x.pass) first k.steps b.seen (todo_of b.outcome) b.drove.goes b.owed at

  -- what came since
  came : Follows reached is_entry → (w : Work) (x y : At E A) (first : Todo) (k : Chain E) → WaitsAt reached is_entry x.pass.base x.pass.seen w.generation first
      → (b : Broke reached notes w x first k y) → (xs : List E) → b.seen.entries ++ xs ≡ y.pass.seen
      → (es : List LifeEntry) × AreEntries is_entry xs es × HasOutcome w.generation es
  came follows w x y first k at b xs is =
      let wait = waited w x y first k at b in
      let f = follows x.pass.base b.seen.entries xs wait.lives b.refusal.lives wait.at (subst (λ (h : List E). reached x.pass.base h b.refusal.lives) (sym is) b.refusal.at) in
      (f.0, f.1, broken_by_other wait.lives b.refusal.lives f.0 w.generation b.outcome b.refusal.error wait.waits f.2 b.refusal.row)

  pub broken_by_others : Follows reached is_entry → BrokenByOthers reached notes is_entry
  broken_by_others follows w x y first k stands at b =
      let c = came follows w x y first k at b b.refusal.comes.0.0 b.refusal.comes.0.1 in
      let begins = goes_begins reached notes x.pass.base x.pass.alone w.generation (sight x.pass) first k.steps b.seen (todo_of b.outcome) b.drove.goes in
      let early = prefix_length x.pass.seen b.seen.entries begins.0 in
      record {
        since = b.refusal.comes.0.0;
        later_is = sym b.refusal.comes.0.1;
        events = c.0;
        are = c.1;
        outcome = c.2;
        own = λ n o. ⊎_elim
            (λ old. let below = owns_below x.pass.seen x.pass.mine n stands old in omega (arith, below, early))
            (λ new. goes_own x.pass.base x.pass.alone w.generation (sight x.pass) first k.steps b.seen (todo_of b.outcome) b.drove.goes n new)
            (owns_append x.pass.mine (map own k.steps) n (subst (λ (ps : List (ℕ × E)). Owns n ps) b.drove.mine o));
      }

  none_came : (g : ℕ) (es : List LifeEntry) → AreEntries is_entry [] es → HasOutcome g es → ⊥
  none_came g [] are (before, x, after, is, out) = no_cons before x after is
    where
      no_cons : (before : List LifeEntry) (x : LifeEntry) (after : List LifeEntry) → [] ≡ before ++ x ∷ after → ⊥
      no_cons [] x after is = cc (is)
      no_cons (z ∷ before) x after is = cc (is)
  none_came g (e ∷ es) are out = absurd are

  pub alone_unbroken : Follows reached is_entry → AloneUnbroken reached notes is_entry
  alone_unbroken follows w x y first k alone at b =
      let c = came follows w x y first k at b [] (append-nil b.seen.entries ∙ sym (ap (λ h. h.entries) (b.refusal.comes.2 alone))) in
      none_came w.generation c.0 c.1 c.2
