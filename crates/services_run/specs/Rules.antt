-- What a visit makes of a service, and which calls it makes, from the answers of the devices.
use Rattle.std.specs.Prelude.{◌≡◌, ℕ, ◌+◌, ◌-◌, ◌^◌, min, max, Bool, true, false, if◌then◌else◌, nat_lt, List, [], ◌∷◌, Option, Some, None}
use Rattle.hub_devices.specs.Calls.{Grows}
use Rattle.services_run.specs.Calls.{RunCall, start_of, stop_of, poll_of, PathCall, add_of, delete_of}
use Rattle.services_run.specs.declared.place.Managed.{Managed}
use Rattle.services_run.specs.declared.place.State.{State}
use Rattle.services_run.specs.declared.place.State.TheVariants.{Down, Up, Loose, GivenUp}
use Rattle.services_run.specs.declared.place.Outcome.{Outcome}
use Rattle.services_run.specs.declared.place.Outcome.TheVariants.{Quiet, Started, Lost, Failing}
use Rattle.services_run.specs.declared.place.Place.{Place}
use Rattle.services_run.specs.declared.place.Turn.{Turn}

-- What the devices would answer in one visit to a service: whether each call is done, and what a poll tells, none where it fails.
-- A visit makes only those of these calls that its rule wants
pub record Answers : Type 0 where
  pub start : Bool
  pub add : Bool
  pub delete : Bool
  pub stop : Bool
  pub poll : Option Bool

-- What a visit leaves: the service's state, its tries (how often it failed since it was last found running), the last number that a program
-- got, and what the visit counts as
abbrev pub turn : State → ℕ → ℕ → Outcome → Turn
turn state tries last outcome = record { state = state; tries = tries; last = last; outcome = outcome }

-- The number of the next program, at the moment `now` and behind the last number: the greater of the moment and one more than the last
-- number, up to the greatest `u64`
abbrev pub next_number : ℕ → ℕ → ℕ
next_number now last = max now (min (last + 1) (2 ^ 64 - 1))

-- one try more; they stand still at the greatest `u32`
abbrev pub one_more : ℕ → ℕ
one_more tries = min (tries + 1) (2 ^ 32 - 1)

-- The state of a service whose program g is to end: its path is deleted and, if that is Ok, the program stopped. `delete` and `stop` say
-- whether these calls are done; where one isn't, the service is Loose
abbrev pub freed : Bool → Bool → ℕ → State
freed delete stop g = if delete then (if stop then Down else Loose g) else Loose g

-- The calls on programs that go with it: the program g of the service m is stopped, if its path was deleted
abbrev pub free_runs : Bool → Bool → ℕ → Managed → List RunCall
free_runs delete stop g m = if delete then stop_of g m stop ∷ [] else []

-- What a visit makes of a service that is Down and has tries left: its program is started with the number g and then its path added. Where
-- a call fails it has one try more, and what was started is freed
abbrev pub begin_turn : Answers → ℕ → ℕ → Turn
begin_turn a g tries =
    if a.start then (if a.add then turn (Up g) tries g Started else turn (freed a.delete a.stop g) (tries + 1) g Failing)
    else turn Down (tries + 1) g Failing

-- The calls on programs that go with it, for the service p: the start, and a stop where the path wasn't added and could be deleted
abbrev pub begin_runs : Answers → ℕ → Place → List RunCall
begin_runs a g p =
    start_of g p.managed a.start
    ∷ (if a.start then (if a.add then [] else free_runs a.delete a.stop g p.managed) else [])

-- The calls on routes that go with it: where the program was started the path is added, and deleted where that failed
abbrev pub begin_paths : Answers → ℕ → Place → List PathCall
begin_paths a g p =
    if a.start then add_of p.path p.managed a.add ∷ (if a.add then [] else delete_of p.path g a.delete ∷ []) else []

-- What a visit makes of a service that is Up with the program g, by what a poll tells: nothing where it fails; the tries are 0 again where
-- the program runs; where it has ended its path is deleted, which leaves it Down, or Loose if that fails, and it has one try more
abbrev pub look_turn : Option Bool → Bool → ℕ → ℕ → ℕ → Turn
look_turn None delete g tries last = turn (Up g) tries last Quiet
look_turn (Some true) delete g tries last = turn (Up g) 0 last Quiet
look_turn (Some false) delete g tries last = turn (if delete then Down else Loose g) (one_more tries) last Lost

-- The calls on routes that go with it: the path of the service p is deleted where its program has ended
abbrev pub look_paths : Option Bool → Bool → ℕ → Place → List PathCall
look_paths None delete g p = []
look_paths (Some true) delete g p = []
look_paths (Some false) delete g p = delete_of p.path g delete ∷ []

-- What a visit in a round makes of a service in a state: one that is Down is begun, or given up after five tries; one that is Up is looked
-- at; of one that is Loose the path is deleted and the program stopped once more; one that is given up stays so. `a` is what the devices
-- answer, `now` the moment of the round and `last` the last number
abbrev pub tend_turn : Answers → ℕ → ℕ → ℕ → State → Turn
tend_turn a now last tries Down = if nat_lt tries 5 then begin_turn a (next_number now last) tries else turn GivenUp tries last Quiet
tend_turn a now last tries (Up g) = look_turn a.poll a.delete g tries last
tend_turn a now last tries (Loose g) = turn (freed a.delete a.stop g) tries last Quiet
tend_turn a now last tries GivenUp = turn GivenUp tries last Quiet

-- The calls on programs in that visit to the service p
abbrev pub tend_runs : Answers → ℕ → ℕ → Place → State → List RunCall
tend_runs a now last p Down = if nat_lt p.tries 5 then begin_runs a (next_number now last) p else []
tend_runs a now last p (Up g) = poll_of g p.managed a.poll ∷ []
tend_runs a now last p (Loose g) = free_runs a.delete a.stop g p.managed
tend_runs a now last p GivenUp = []

-- The calls on routes in that visit
abbrev pub tend_paths : Answers → ℕ → ℕ → Place → State → List PathCall
tend_paths a now last p Down = if nat_lt p.tries 5 then begin_paths a (next_number now last) p else []
tend_paths a now last p (Up g) = look_paths a.poll a.delete g p
tend_paths a now last p (Loose g) = delete_of p.path g a.delete ∷ []
tend_paths a now last p GivenUp = []

-- What a visit at the end makes of a service in a state: where a program of it may run, its path is deleted and the program stopped; else
-- it stays as it is
abbrev pub halt_turn : Answers → ℕ → ℕ → State → Turn
halt_turn a last tries Down = turn Down tries last Quiet
halt_turn a last tries (Up g) = turn (freed a.delete a.stop g) tries last Quiet
halt_turn a last tries (Loose g) = turn (freed a.delete a.stop g) tries last Quiet
halt_turn a last tries GivenUp = turn GivenUp tries last Quiet

-- The calls on programs in that visit to the service p
abbrev pub halt_runs : Answers → Place → State → List RunCall
halt_runs a p Down = []
halt_runs a p (Up g) = free_runs a.delete a.stop g p.managed
halt_runs a p (Loose g) = free_runs a.delete a.stop g p.managed
halt_runs a p GivenUp = []

-- The calls on routes in that visit
abbrev pub halt_paths : Answers → Place → State → List PathCall
halt_paths a p Down = []
halt_paths a p (Up g) = delete_of p.path g a.delete ∷ []
halt_paths a p (Loose g) = delete_of p.path g a.delete ∷ []
halt_paths a p GivenUp = []

-- By which rules a service is visited: those of a round at a moment, or those of the end
pub data Rule : Type 0 where
  tending : ℕ → Rule
  halting : Rule

-- What a visit to the service p by a rule makes of it, where the devices answer so and `last` is the last number
abbrev pub turn_of : Rule → Answers → ℕ → Place → Turn
turn_of (tending now) a last p = tend_turn a now last p.tries p.state
turn_of halting a last p = halt_turn a last p.tries p.state

-- The calls on programs in that visit
abbrev pub runs_of : Rule → Answers → ℕ → Place → List RunCall
runs_of (tending now) a last p = tend_runs a now last p p.state
runs_of halting a last p = halt_runs a p p.state

-- The calls on routes in that visit
abbrev pub paths_of : Rule → Answers → ℕ → Place → List PathCall
paths_of (tending now) a last p = tend_paths a now last p p.state
paths_of halting a last p = halt_paths a p p.state

-- A visit to the service p by a rule made this turn of it, and its calls, with some answers of the devices. r and q are the calls on
-- programs and on routes that were told before, those with a prime the ones that are told then, here and below
pub record Visited (rule : Rule) (last : ℕ) (p : Place) (t : Turn) (r r' : Option (List RunCall))
    (q q' : Option (List PathCall)) : Type 0 where
  pub answers : Answers
  pub turn_is : t ≡ turn_of rule answers last p
  pub runs : Grows r (runs_of rule answers last p) r'
  pub paths : Grows q (paths_of rule answers last p) q'

-- The path of the service p was deleted and, if that was Ok, its program g stopped, which left the state s
pub record Freed (g : ℕ) (p : Place) (s : State) (r r' : Option (List RunCall)) (q q' : Option (List PathCall)) : Type 0 where
  pub delete : Bool
  pub stop : Bool
  pub state_is : s ≡ freed delete stop g
  pub runs : Grows r (free_runs delete stop g p.managed) r'
  pub paths : Grows q (delete_of p.path g delete ∷ []) q'

-- The same as a whole visit, in which the tries stay
pub record FreedQuietly (g last : ℕ) (p : Place) (t : Turn) (r r' : Option (List RunCall)) (q q' : Option (List PathCall)) : Type 0 where
  pub answers : Answers
  pub turn_is : t ≡ turn (freed answers.delete answers.stop g) p.tries last Quiet
  pub runs : Grows r (free_runs answers.delete answers.stop g p.managed) r'
  pub paths : Grows q (delete_of p.path g answers.delete ∷ []) q'

-- The path of the service p was deleted behind its program g, which left the state s
pub record Unrouted (g : ℕ) (p : Place) (s : State) (q q' : Option (List PathCall)) : Type 0 where
  pub delete : Bool
  pub state_is : s ≡ (if delete then Down else Loose g)
  pub paths : Grows q (delete_of p.path g delete ∷ []) q'

-- The service p was begun with the number g, which made this turn of it
pub record Begun (g : ℕ) (p : Place) (t : Turn) (r r' : Option (List RunCall)) (q q' : Option (List PathCall)) : Type 0 where
  pub answers : Answers
  pub turn_is : t ≡ begin_turn answers g p.tries
  pub runs : Grows r (begin_runs answers g p) r'
  pub paths : Grows q (begin_paths answers g p) q'

-- The service p, which is Up with the program g, was looked at, which made this turn of it; `last` is the last number
pub record Looked (g last : ℕ) (p : Place) (t : Turn) (r r' : Option (List RunCall)) (q q' : Option (List PathCall)) : Type 0 where
  pub answers : Answers
  pub turn_is : t ≡ look_turn answers.poll answers.delete g p.tries last
  pub runs : Grows r (poll_of g p.managed answers.poll ∷ []) r'
  pub paths : Grows q (look_paths answers.poll answers.delete g p) q'
