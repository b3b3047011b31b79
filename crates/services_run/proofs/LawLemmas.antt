-- What a visit keeps.
use Rattle.std.proofs.Common.{◌≡◌, ◌≢◌, ◌⊎◌, inl, inr, ℕ, zero, suc, ◌+◌, Bool, true, false, if◌then◌else◌, nat_eq, nat_lt, List, [], ◌∷◌, ◌++◌, Option, Some, None, slice_get, slice_set, refl, sym, ap, ◌∙◌, subst, arith}
use Rattle.std.proofs.lemmas.Bool.Decides.{nat_tests}
use Rattle.hub_devices.specs.Faults.{Rises}
use Rattle.services_run.specs.Calls.{RunCall, start_of, poll_of, PathCall, add_of, delete_of}
use Rattle.services_run.specs.declared.place.State.{State}
use Rattle.services_run.specs.declared.place.State.TheVariants.{Down, Up, Loose, GivenUp}
use Rattle.services_run.specs.declared.place.Outcome.TheVariants.{Quiet, Started, Failing}
use Rattle.services_run.specs.declared.place.Place.{Place}
use Rattle.services_run.specs.declared.place.Turn.{Turn}
use Rattle.services_run.specs.Rules.{Answers, Rule, tending, halting, turn, turn_of, runs_of, paths_of, freed, free_runs, begin_turn, begin_runs, begin_paths, next_number, look_turn, look_paths, tend_turn, tend_runs, tend_paths, halt_turn, halt_runs, halt_paths}
use Rattle.services_run.specs.Rounds.{World, Move, put_turn, move_by, move_at, move, run, fresh}
use Rattle.services_run.specs.Law.{Alive, nobody, set_at, after_call, alive_after, may_run, OnePerService, StartsAlone, last_start, last_number, NumbersRise, Label, label, labels, HasPath, HasRoute, AllOwn, HasDistinctNames, HasPaths, generation_of, AllHeld, IsLawful}

pub some_same : {A : Type 0} (x y : A) → Some x ≡ Some y → x ≡ y
some_same x y e = cc

none_some : {A : Type 0} (x : A) → None ≡ Some x → ⊥
none_some x e = cc

set_case : (f : Alive) (g h : ℕ) (v : Option (List ℕ)) (name : List ℕ) (b : Bool) → nat_eq h g ≡ b
    → (if b then v else f h) ≡ Some name → ((h ≡ g) × (v ≡ Some name)) ⊎ ((h ≢ g) × (f h ≡ Some name))
set_case f g h v name true e is = inl (grind (arith, nat_tests), is)
set_case f g h v name false e is = inr (grind (arith, nat_tests), is)

set_cases : (f : Alive) (g h : ℕ) (v : Option (List ℕ)) (name : List ℕ)
    → set_at f g v h ≡ Some name → ((h ≡ g) × (v ≡ Some name)) ⊎ ((h ≢ g) × (f h ≡ Some name))
set_cases f g h v name is = set_case f g h v name (nat_eq h g) refl is

pub get_set : {A : Type 0} (xs : List A) (i : ℕ) (v : A) (j : ℕ) (x : A) → slice_get xs i ≡ Some x → slice_get (slice_set xs i v) i ≡ Some v
get_set [] i v j x h = cc
get_set (y ∷ ys) zero v j x h = refl
get_set (y ∷ ys) (suc i) v j x h = get_set ys i v j x h

pub get_other : {A : Type 0} (xs : List A) (i j : ℕ) (v : A) → j ≢ i → slice_get (slice_set xs i v) j ≡ slice_get xs j
get_other [] i j v d = refl
get_other (y ∷ ys) zero zero v d = absurd (d refl)
get_other (y ∷ ys) zero (suc j) v d = refl
get_other (y ∷ ys) (suc i) zero v d = refl
get_other (y ∷ ys) (suc i) (suc j) v d = get_other ys i j v (λ e. d (ap suc e))

get_label : (ps : List Place) (i : ℕ) (p : Place) → slice_get ps i ≡ Some p → slice_get (labels ps) i ≡ Some (label p)
get_label [] i p h = cc
get_label (q ∷ ps) zero p h = ap (λ (x : Place). Some (label x)) (some_same q p h)
get_label (q ∷ ps) (suc i) p h = get_label ps i p h

pub labels_stay : (ps : List Place) (i : ℕ) (p : Place) (t : Turn) → slice_get ps i ≡ Some p → labels (slice_set ps i (put_turn p t)) ≡ labels ps
labels_stay [] i p t h = refl
labels_stay (q ∷ ps) zero p t h = ap (λ (x : Place). label x ∷ labels ps) (sym (some_same q p h))
labels_stay (q ∷ ps) (suc i) p t h = ap (λ (ls : List Label). label q ∷ ls) (labels_stay ps i p t h)

alive_more : (f : Alive) (xs ys : List RunCall) → alive_after f (xs ++ ys) ≡ alive_after (alive_after f xs) ys
alive_more f [] ys = refl
alive_more f (x ∷ xs) ys = alive_more (after_call f x) xs ys

starts_more : (f : Alive) (xs ys : List RunCall) → StartsAlone f xs → StartsAlone (alive_after f xs) ys → StartsAlone f (xs ++ ys)
starts_more f [] ys s t = t
starts_more f (x ∷ xs) ys s t = (s.0, starts_more (after_call f x) xs ys s.1 t)

own_more : (ls : List Label) (xs ys : List PathCall) → AllOwn ls xs → AllOwn ls ys → AllOwn ls (xs ++ ys)
own_more ls [] ys s t = t
own_more ls (x ∷ xs) ys s t = (s.0, own_more ls xs ys s.1 t)

rise_more : (last : ℕ) (xs ys : List RunCall) → NumbersRise last xs → NumbersRise (last_number last xs) ys → NumbersRise last (xs ++ ys)
rise_more last [] ys s t = t
rise_more last (x ∷ xs) ys s t = (s.0, rise_more (last_start last x.0) xs ys s.1 t)

number_more : (last : ℕ) (xs ys : List RunCall) → last_number last (xs ++ ys) ≡ last_number (last_number last xs) ys
number_more last [] ys = refl
number_more last (x ∷ xs) ys = number_more (last_start last x.0) xs ys

-- what may run after a visit is the service's own, or ran before and has not lost its service
abbrev Keeps : Alive → Alive → List ℕ → State → State → Type 0
Keeps f f' own s s' =
    (g : ℕ) (name : List ℕ) → f' g ≡ Some name
    → ((own ≡ name) × (generation_of s' ≡ Some g)) ⊎ ((f g ≡ Some name) × (generation_of s ≡ Some g → generation_of s' ≡ Some g))

stays : (f : Alive) (own : List ℕ) (s : State) → Keeps f f own s s
stays f own s g name is = inr (is, λ e. e)

from_down : (f : Alive) (own : List ℕ) (s' : State) → Keeps f f own Down s'
from_down f own s' g name is = inr (is, λ e. absurd (none_some g e))

-- g0 has ended
ends : (f : Alive) (own : List ℕ) (s s' : State) (g0 : ℕ) → generation_of s ≡ Some g0 → Keeps f (set_at f g0 None) own s s'
ends f own s s' g0 was g name is = elim (set_cases f g0 g None name is) [
  | inl x ↦ absurd (none_some name x.1)
  | inr x ↦ inr (x.1, λ e. absurd (x.0 (some_same g g0 (sym e ∙ was))))
]

-- g0 has begun
begins : (f : Alive) (own : List ℕ) (s' : State) (g0 : ℕ) → generation_of s' ≡ Some g0 → Keeps f (set_at f g0 (Some own)) own Down s'
begins f own s' g0 now g name is = elim (set_cases f g0 g (Some own) name is) [
  | inl x ↦ inl (some_same own name x.1, now ∙ ap Some (sym x.0))
  | inr x ↦ inr (x.1, λ e. absurd (none_some g e))
]

-- g0 has begun and ended
begins_ends : (f : Alive) (own : List ℕ) (s' : State) (g0 : ℕ) → Keeps f (set_at (set_at f g0 (Some own)) g0 None) own Down s'
begins_ends f own s' g0 g name is = elim (set_cases (set_at f g0 (Some own)) g0 g None name is) [
  | inl x ↦ absurd (none_some name x.1)
  | inr x ↦ elim (set_cases f g0 g (Some own) name x.1) [
    | inl y ↦ absurd (x.0 y.0)
    | inr y ↦ inr (y.1, λ e. absurd (none_some g e))
  ]
]

freed_keeps : (f : Alive) (p : Place) (s : State) (g : ℕ) (delete stop : Bool) → generation_of s ≡ Some g
    → Keeps f (alive_after f (free_runs delete stop g p.managed)) p.managed.name s (freed delete stop g)
freed_keeps f p s g true true was = ends f p.managed.name s Down g was
freed_keeps f p s g true false was = λ h name is. inr (is, λ e. sym was ∙ e)
freed_keeps f p s g false stop was = λ h name is. inr (is, λ e. sym was ∙ e)

begin_keeps : (f : Alive) (p : Place) (g : ℕ) (start add delete stop : Bool)
    → Keeps f (alive_after f (start_of g p.managed start
    ∷ (if start then (if add then [] else free_runs delete stop g p.managed) else [])))
    p.managed.name Down (if start then (if add then Up g else freed delete stop g) else Down)
begin_keeps f p g false add delete stop = from_down f p.managed.name Down
begin_keeps f p g true true delete stop = begins f p.managed.name (Up g) g refl
begin_keeps f p g true false false stop = begins f p.managed.name (Loose g) g refl
begin_keeps f p g true false true false = begins f p.managed.name (Loose g) g refl
begin_keeps f p g true false true true = begins_ends f p.managed.name Down g

begin_state : (a : Answers) (g tries : ℕ) (start add : Bool)
    → (if start then (if add then turn (Up g) tries g Started else turn (freed a.delete a.stop g) (tries + 1) g Failing) else turn Down (tries + 1) g Failing).state
    ≡ (if start then (if add then Up g else freed a.delete a.stop g) else Down)
begin_state a g tries false add = refl
begin_state a g tries true true = refl
begin_state a g tries true false = refl

begin_alone : (f : Alive) (p : Place) (g : ℕ) (start add delete stop : Bool) → ((h : ℕ) → f h ≢ Some p.managed.name)
    → StartsAlone f (start_of g p.managed start
    ∷ (if start then (if add then [] else free_runs delete stop g p.managed) else []))
begin_alone f p g false add delete stop free = (free, tt)
begin_alone f p g true true delete stop free = (free, tt)
begin_alone f p g true false false stop free = (free, tt)
begin_alone f p g true false true stop free = (free, (tt, tt))

its_path : (ls : List Label) (p : Place) → HasRoute ls p.path p.managed.target → HasPath ls p.path
its_path ls p own = (own.0, own.1, own.2, own.3)

freed_alone : (f : Alive) (p : Place) (g : ℕ) (delete stop : Bool) → StartsAlone f (free_runs delete stop g p.managed)
freed_alone f p g true stop = (tt, tt)
freed_alone f p g false stop = tt

begin_own : (ls : List Label) (p : Place) (g : ℕ) (start add delete : Bool) → HasRoute ls p.path p.managed.target
    → AllOwn ls (if start then add_of p.path p.managed add ∷ (if add then [] else delete_of p.path g delete ∷ []) else [])
begin_own ls p g false add delete own = tt
begin_own ls p g true true delete own = ((own, refl), tt)
begin_own ls p g true false delete own = ((own, refl), (its_path ls p own, tt))

look_keeps : (f : Alive) (p : Place) (g tries last : ℕ) (poll : Option Bool) (delete : Bool)
    → Keeps f (after_call f (poll_of g p.managed poll)) p.managed.name (Up g) (look_turn poll delete g tries last).state
look_keeps f p g tries last None delete = stays f p.managed.name (Up g)
look_keeps f p g tries last (Some true) delete = stays f p.managed.name (Up g)
look_keeps f p g tries last (Some false) delete = ends f p.managed.name (Up g) (if delete then Down else Loose g) g refl

down_keeps : (f : Alive) (a : Answers) (g last : ℕ) (p : Place) (b : Bool)
    → Keeps f (alive_after f (if b then begin_runs a g p else [])) p.managed.name Down
    (if b then begin_turn a g p.tries else turn GivenUp p.tries last Quiet).state
down_keeps f a g last p true =
    subst (λ (s : State). Keeps f (alive_after f (begin_runs a g p)) p.managed.name Down s) (sym (begin_state a g p.tries a.start a.add))
    (begin_keeps f p g a.start a.add a.delete a.stop)
down_keeps f a g last p false = from_down f p.managed.name GivenUp

tend_keeps : (f : Alive) (a : Answers) (now last : ℕ) (p : Place) (s : State)
    → Keeps f (alive_after f (tend_runs a now last p s)) p.managed.name s (tend_turn a now last p.tries s).state
tend_keeps f a now last p Down = down_keeps f a (next_number now last) last p (nat_lt p.tries 5)
tend_keeps f a now last p (Up g) = look_keeps f p g p.tries last a.poll a.delete
tend_keeps f a now last p (Loose g) = freed_keeps f p (Loose g) g a.delete a.stop refl
tend_keeps f a now last p GivenUp = stays f p.managed.name GivenUp

halt_keeps : (f : Alive) (a : Answers) (last : ℕ) (p : Place) (s : State)
    → Keeps f (alive_after f (halt_runs a p s)) p.managed.name s (halt_turn a last p.tries s).state
halt_keeps f a last p Down = stays f p.managed.name Down
halt_keeps f a last p (Up g) = freed_keeps f p (Up g) g a.delete a.stop refl
halt_keeps f a last p (Loose g) = freed_keeps f p (Loose g) g a.delete a.stop refl
halt_keeps f a last p GivenUp = stays f p.managed.name GivenUp

visit_keeps : (f : Alive) (rule : Rule) (a : Answers) (last : ℕ) (p : Place)
    → Keeps f (alive_after f (runs_of rule a last p)) p.managed.name p.state (turn_of rule a last p).state
visit_keeps f (tending now) a last p = tend_keeps f a now last p p.state
visit_keeps f halting a last p = halt_keeps f a last p p.state

abbrev NoneOf : Alive → List ℕ → Type 0
NoneOf f name = (h : ℕ) → f h ≢ Some name

down_alone : (f : Alive) (a : Answers) (g : ℕ) (p : Place) (b : Bool) → NoneOf f p.managed.name
    → StartsAlone f (if b then begin_runs a g p else [])
down_alone f a g p true free = begin_alone f p g a.start a.add a.delete a.stop free
down_alone f a g p false free = tt

tend_alone : (f : Alive) (a : Answers) (now last : ℕ) (p : Place) (s : State) → (s ≡ Down → NoneOf f p.managed.name)
    → StartsAlone f (tend_runs a now last p s)
tend_alone f a now last p Down free = down_alone f a (next_number now last) p (nat_lt p.tries 5) (free refl)
tend_alone f a now last p (Up g) free = (tt, tt)
tend_alone f a now last p (Loose g) free = freed_alone f p g a.delete a.stop
tend_alone f a now last p GivenUp free = tt

halt_alone : (f : Alive) (a : Answers) (p : Place) (s : State) → StartsAlone f (halt_runs a p s)
halt_alone f a p Down = tt
halt_alone f a p (Up g) = freed_alone f p g a.delete a.stop
halt_alone f a p (Loose g) = freed_alone f p g a.delete a.stop
halt_alone f a p GivenUp = tt

visit_alone : (f : Alive) (rule : Rule) (a : Answers) (last : ℕ) (p : Place) → (p.state ≡ Down → NoneOf f p.managed.name)
    → StartsAlone f (runs_of rule a last p)
visit_alone f (tending now) a last p free = tend_alone f a now last p p.state free
visit_alone f halting a last p free = halt_alone f a p p.state

next_later : (now last : ℕ) → Rises last (next_number now last)
next_later now last below = omega (arith, below)

freed_rise : (last g : ℕ) (p : Place) (delete stop : Bool) → NumbersRise last (free_runs delete stop g p.managed)
freed_rise last g p true stop = (tt, tt)
freed_rise last g p false stop = tt

freed_number : (last g : ℕ) (p : Place) (delete stop : Bool) → last_number last (free_runs delete stop g p.managed) ≡ last
freed_number last g p true stop = refl
freed_number last g p false stop = refl

begin_rise : (last g : ℕ) (p : Place) (start add delete stop : Bool) → Rises last g
    → NumbersRise last (start_of g p.managed start ∷ (if start then (if add then [] else free_runs delete stop g p.managed) else []))
begin_rise last g p false add delete stop later = (later, tt)
begin_rise last g p true true delete stop later = (later, tt)
begin_rise last g p true false delete stop later = (later, freed_rise g g p delete stop)

begin_number : (last g : ℕ) (p : Place) (a : Answers) (start add : Bool)
    → last_number last (start_of g p.managed start ∷ (if start then (if add then [] else free_runs a.delete a.stop g p.managed) else []))
    ≡ (if start then (if add then turn (Up g) p.tries g Started else turn (freed a.delete a.stop g) (p.tries + 1) g Failing) else turn Down (p.tries + 1) g Failing).last
begin_number last g p a false add = refl
begin_number last g p a true true = refl
begin_number last g p a true false = freed_number g g p a.delete a.stop

down_rise : (a : Answers) (last g : ℕ) (p : Place) (b : Bool) → Rises last g → NumbersRise last (if b then begin_runs a g p else [])
down_rise a last g p true later = begin_rise last g p a.start a.add a.delete a.stop later
down_rise a last g p false later = tt

down_number : (a : Answers) (last g : ℕ) (p : Place) (b : Bool)
    → last_number last (if b then begin_runs a g p else []) ≡ (if b then begin_turn a g p.tries else turn GivenUp p.tries last Quiet).last
down_number a last g p true = begin_number last g p a a.start a.add
down_number a last g p false = refl

look_number : (g tries last : ℕ) (poll : Option Bool) (delete : Bool) → last ≡ (look_turn poll delete g tries last).last
look_number g tries last None delete = refl
look_number g tries last (Some true) delete = refl
look_number g tries last (Some false) delete = refl

tend_rise : (a : Answers) (now last : ℕ) (p : Place) (s : State) → NumbersRise last (tend_runs a now last p s)
tend_rise a now last p Down = down_rise a last (next_number now last) p (nat_lt p.tries 5) (next_later now last)
tend_rise a now last p (Up g) = (tt, tt)
tend_rise a now last p (Loose g) = freed_rise last g p a.delete a.stop
tend_rise a now last p GivenUp = tt

tend_number : (a : Answers) (now last : ℕ) (p : Place) (s : State)
    → last_number last (tend_runs a now last p s) ≡ (tend_turn a now last p.tries s).last
tend_number a now last p Down = down_number a last (next_number now last) p (nat_lt p.tries 5)
tend_number a now last p (Up g) = look_number g p.tries last a.poll a.delete
tend_number a now last p (Loose g) = freed_number last g p a.delete a.stop
tend_number a now last p GivenUp = refl

halt_rise : (a : Answers) (last : ℕ) (p : Place) (s : State) → NumbersRise last (halt_runs a p s)
halt_rise a last p Down = tt
halt_rise a last p (Up g) = freed_rise last g p a.delete a.stop
halt_rise a last p (Loose g) = freed_rise last g p a.delete a.stop
halt_rise a last p GivenUp = tt

halt_number : (a : Answers) (last : ℕ) (p : Place) (s : State) → last_number last (halt_runs a p s) ≡ (halt_turn a last p.tries s).last
halt_number a last p Down = refl
halt_number a last p (Up g) = freed_number last g p a.delete a.stop
halt_number a last p (Loose g) = freed_number last g p a.delete a.stop
halt_number a last p GivenUp = refl

visit_rise : (rule : Rule) (a : Answers) (last : ℕ) (p : Place) → NumbersRise last (runs_of rule a last p)
visit_rise (tending now) a last p = tend_rise a now last p p.state
visit_rise halting a last p = halt_rise a last p p.state

visit_number : (rule : Rule) (a : Answers) (last : ℕ) (p : Place) → last_number last (runs_of rule a last p) ≡ (turn_of rule a last p).last
visit_number (tending now) a last p = tend_number a now last p p.state
visit_number halting a last p = halt_number a last p p.state

abbrev RoutesOwn : List Label → Place → Type 0
RoutesOwn ls p = HasRoute ls p.path p.managed.target

look_own : (ls : List Label) (p : Place) (g : ℕ) (poll : Option Bool) (delete : Bool) → RoutesOwn ls p → AllOwn ls (look_paths poll delete g p)
look_own ls p g None delete own = tt
look_own ls p g (Some true) delete own = tt
look_own ls p g (Some false) delete own = (its_path ls p own, tt)

down_own : (ls : List Label) (a : Answers) (g : ℕ) (p : Place) (b : Bool) → RoutesOwn ls p → AllOwn ls (if b then begin_paths a g p else [])
down_own ls a g p true own = begin_own ls p g a.start a.add a.delete own
down_own ls a g p false own = tt

tend_own : (ls : List Label) (a : Answers) (now last : ℕ) (p : Place) (s : State) → RoutesOwn ls p → AllOwn ls (tend_paths a now last p s)
tend_own ls a now last p Down own = down_own ls a (next_number now last) p (nat_lt p.tries 5) own
tend_own ls a now last p (Up g) own = look_own ls p g a.poll a.delete own
tend_own ls a now last p (Loose g) own = (its_path ls p own, tt)
tend_own ls a now last p GivenUp own = tt

halt_own : (ls : List Label) (a : Answers) (p : Place) (s : State) → RoutesOwn ls p → AllOwn ls (halt_paths a p s)
halt_own ls a p Down own = tt
halt_own ls a p (Up g) own = (its_path ls p own, tt)
halt_own ls a p (Loose g) own = (its_path ls p own, tt)
halt_own ls a p GivenUp own = tt

visit_own : (ls : List Label) (rule : Rule) (a : Answers) (last : ℕ) (p : Place) → RoutesOwn ls p → AllOwn ls (paths_of rule a last p)
visit_own ls (tending now) a last p own = tend_own ls a now last p p.state own
visit_own ls halting a last p own = halt_own ls a p p.state own

-- two services of one name are one
same_place : (ls : List Label) (ps : List Place) (i j : ℕ) (p q : Place) → HasDistinctNames ls → labels ps ≡ ls
    → slice_get ps i ≡ Some p → slice_get ps j ≡ Some q → p.managed.name ≡ q.managed.name → p ≡ q
same_place ls ps i j p q distinct same hp hq names =
    let here : slice_get ls i ≡ Some (label p) = ap (λ (xs : List Label). slice_get xs i) (sym same) ∙ get_label ps i p hp in
    let there : slice_get ls j ≡ Some (label q) = ap (λ (xs : List Label). slice_get xs j) (sym same) ∙ get_label ps j q hq in
    let is : i ≡ j = distinct i j (label p) (label q) here there names in
    some_same p q (sym hp ∙ (ap (slice_get ps) is ∙ hq))

one_of : (ls : List Label) (ps : List Place) (f : Alive) → HasDistinctNames ls → labels ps ≡ ls → AllHeld ps f → OnePerService f
one_of ls ps f distinct same held g h name fg fh =
    let a = held g name fg in
    let b = held h name fh in
    let is : a.1 ≡ b.1 = same_place ls ps a.0 b.0 a.1 b.1 distinct same a.2 b.2 (a.3 ∙ sym b.3) in
    some_same g h (sym a.4 ∙ (ap (λ (p : Place). generation_of p.state) is ∙ b.4))

down_free : (ls : List Label) (ps : List Place) (f : Alive) (i : ℕ) (p : Place) → HasDistinctNames ls → labels ps ≡ ls → AllHeld ps f
    → slice_get ps i ≡ Some p → p.state ≡ Down → NoneOf f p.managed.name
down_free ls ps f i p distinct same held hp down h fh =
    let a = held h p.managed.name fh in
    let is : a.1 ≡ p = same_place ls ps a.0 i a.1 p distinct same a.2 hp a.3 in
    none_some h (sym (ap generation_of (ap (λ (q : Place). q.state) is ∙ down)) ∙ a.4)

abbrev Found : List Place → ℕ → List ℕ → Type 0
Found ps g name = (i : ℕ) × (p : Place) × (slice_get ps i ≡ Some p) × (p.managed.name ≡ name) × (generation_of p.state ≡ Some g)

found_by : (ps : List Place) (i j : ℕ) (p q : Place) (t : Turn) (g : ℕ) (name : List ℕ) (b : Bool) → nat_eq j i ≡ b
    → slice_get ps i ≡ Some p → slice_get ps j ≡ Some q → q.managed.name ≡ name → generation_of q.state ≡ Some g
    → (generation_of p.state ≡ Some g → generation_of t.state ≡ Some g) → Found (slice_set ps i (put_turn p t)) g name
found_by ps i j p q t g name true e hp hq names gen keep =
    let at : j ≡ i = grind (arith, nat_tests) in
    let is : q ≡ p = some_same q p (sym hq ∙ (ap (slice_get ps) at ∙ hp)) in (
      i,
      put_turn p t,
      get_set ps i (put_turn p t) i p hp,
      ap (λ (x : Place). x.managed.name) (sym is) ∙ names,
      keep (ap (λ (x : Place). generation_of x.state) (sym is) ∙ gen),
    )
found_by ps i j p q t g name false e hp hq names gen keep =
    let away : j ≢ i = grind (arith, nat_tests) in
    (j, q, get_other ps i j (put_turn p t) away ∙ hq, names, gen)

held_more : (ps : List Place) (f f' : Alive) (i : ℕ) (p : Place) (t : Turn) → slice_get ps i ≡ Some p → AllHeld ps f
    → Keeps f f' p.managed.name p.state t.state → AllHeld (slice_set ps i (put_turn p t)) f'
held_more ps f f' i p t hp held keeps g name is = elim (keeps g name is) [
  | inl x ↦ (i, put_turn p t, get_set ps i (put_turn p t) i p hp, x.0, x.1)
  | inr x ↦ (let a = held g name x.0 in found_by ps i a.0 p a.1 t g name (nat_eq a.0 i) refl hp a.2 a.3 a.4 x.1)
]

lawful_by : (ls : List Label) (last : ℕ) (w : World) (i : ℕ) (p : Place) (t : Turn) (rs : List RunCall) (qs : List PathCall)
    → HasDistinctNames ls → IsLawful ls last w → slice_get w.places i ≡ Some p
    → Keeps (may_run w.runs) (alive_after (may_run w.runs) rs) p.managed.name p.state t.state
    → StartsAlone (may_run w.runs) rs → AllOwn ls qs → NumbersRise w.last rs → last_number w.last rs ≡ t.last → IsLawful ls last (move_by w i p t rs qs)
lawful_by ls last w i p t rs qs distinct l hp keeps alone own rise number =
    let after : may_run (w.runs ++ rs) ≡ alive_after (may_run w.runs) rs = alive_more nobody w.runs rs in
    let same : labels (slice_set w.places i (put_turn p t)) ≡ ls = labels_stay w.places i p t hp ∙ l.same in
    let held : AllHeld (slice_set w.places i (put_turn p t)) (may_run (w.runs ++ rs)) =
    subst (λ (f : Alive). AllHeld (slice_set w.places i (put_turn p t)) f) (sym after)
    (held_more w.places (may_run w.runs) (alive_after (may_run w.runs) rs) i p t hp l.held keeps) in record {
      same = same;
      one = one_of ls (slice_set w.places i (put_turn p t)) (may_run (w.runs ++ rs)) distinct same held;
      alone = starts_more nobody w.runs rs l.alone alone;
      rise = rise_more last w.runs rs l.rise (subst (λ (n : ℕ). NumbersRise n rs) (sym l.number) rise);
      number = number_more last w.runs rs ∙ (ap (λ (n : ℕ). last_number n rs) l.number ∙ number);
      own = own_more ls w.paths qs l.own own;
      held = held;
    }

routes_own : (ls : List Label) (ps : List Place) (i : ℕ) (p : Place) → HasPaths ls → labels ps ≡ ls → slice_get ps i ≡ Some p → RoutesOwn ls p
routes_own ls ps i p paths same hp =
    let here : slice_get ls i ≡ Some (label p) = ap (λ (xs : List Label). slice_get xs i) (sym same) ∙ get_label ps i p hp in
    (i, label p, here, paths i (label p) here, refl)

lawful_at : (ls : List Label) (last : ℕ) (w : World) (m : Move) (o : Option Place) → slice_get w.places m.at ≡ o → HasDistinctNames ls → HasPaths ls
    → IsLawful ls last w → IsLawful ls last (move_at w m o)
lawful_at ls last w m None here distinct paths l = l
lawful_at ls last w m (Some p) here distinct paths l =
    lawful_by ls last w m.at p (turn_of m.rule m.answers w.last p) (runs_of m.rule m.answers w.last p) (paths_of m.rule m.answers w.last p)
    distinct l here (visit_keeps (may_run w.runs) m.rule m.answers w.last p)
    (visit_alone (may_run w.runs) m.rule m.answers w.last p (down_free ls w.places (may_run w.runs) m.at p distinct l.same l.held here))
    (visit_own ls m.rule m.answers w.last p (routes_own ls w.places m.at p paths l.same here))
    (visit_rise m.rule m.answers w.last p) (visit_number m.rule m.answers w.last p)

lawful_run : (ls : List Label) (last : ℕ) (w : World) (ms : List Move) → HasDistinctNames ls → HasPaths ls → IsLawful ls last w → IsLawful ls last (run w ms)
lawful_run ls last w [] distinct paths l = l
lawful_run ls last w (m ∷ ms) distinct paths l =
    lawful_run ls last (move w m) ms distinct paths (lawful_at ls last w m (slice_get w.places m.at) refl distinct paths l)

pub lawful : (ps : List Place) (last : ℕ) (ms : List Move) → HasDistinctNames (labels ps) → HasPaths (labels ps)
    → IsLawful (labels ps) last (run (fresh ps last) ms)
lawful ps last ms distinct paths =
    lawful_run (labels ps) last (fresh ps last) ms distinct paths (record {
      same = refl;
      one = λ g h name fg fh. absurd (none_some name fg);
      alone = tt;
      rise = tt;
      number = refl;
      own = tt;
      held = λ g name is. absurd (none_some name is);
    })

stays_at : (w : World) (m : Move) (o : Option Place) → slice_get w.places m.at ≡ o → labels (move_at w m o).places ≡ labels w.places
stays_at w m None here = refl
stays_at w m (Some p) here = labels_stay w.places m.at p (turn_of m.rule m.answers w.last p) here

pub labels_run : (w : World) (ms : List Move) → labels (run w ms).places ≡ labels w.places
labels_run w [] = refl
labels_run w (m ∷ ms) = labels_run (move w m) ms ∙ stays_at w m (slice_get w.places m.at) refl
