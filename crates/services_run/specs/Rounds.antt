-- Rounds as lists of visits.
use Rattle.std.specs.Prelude.{◌≡◌, ℕ, ◌+◌, List, [], ◌∷◌, ◌++◌, length, Option, Some, None, slice_get, slice_set}
use Rattle.hub_devices.specs.Calls.{Grows}
use Rattle.services_run.specs.Calls.{RunCall, PathCall}
use Rattle.services_run.specs.declared.place.State.{State}
use Rattle.services_run.specs.declared.place.State.TheVariants.{Down, Up, Loose, GivenUp}
use Rattle.services_run.specs.declared.place.Outcome.{Outcome}
use Rattle.services_run.specs.declared.place.Outcome.TheVariants.{Quiet, Started, Lost, Failing}
use Rattle.services_run.specs.declared.place.Place.{Place}
use Rattle.services_run.specs.declared.place.Turn.{Turn}
use Rattle.services_run.specs.declared.place.Tended.{Tended}
use Rattle.services_run.specs.Rules.{Answers, Rule, turn_of, runs_of, paths_of}

-- All services at their places, the last number that a program got, what was counted, and the calls on programs and on routes
pub record World : Type 0 where
  pub places : List Place
  pub last : ℕ
  pub tally : Tended
  pub runs : List RunCall
  pub paths : List PathCall

-- a visit to the service at a place, by a rule, with the answers of the devices
pub record Move : Type 0 where
  pub at : ℕ
  pub rule : Rule
  pub answers : Answers

-- The service with the state and the tries that a visit left
abbrev pub put_turn : Place → Turn → Place
put_turn p t = record { managed = p.managed; path = p.path; state = t.state; tries = t.tries }

-- What is counted with one visit more, by what that counts as
abbrev pub counted : Tended → Outcome → Tended
counted n Quiet = n
counted n Started = record { started = n.started + 1; lost = n.lost; failed = n.failed }
counted n Lost = record { started = n.started; lost = n.lost + 1; failed = n.failed }
counted n Failing = record { started = n.started; lost = n.lost; failed = n.failed + 1 }

-- The world after a visit to the service p at this place, which made this turn of it and these calls
abbrev pub move_by : World → ℕ → Place → Turn → List RunCall → List PathCall → World
move_by w at p t runs paths = record {
  places = slice_set w.places at (put_turn p t);
  last = t.last;
  tally = counted w.tally t.outcome;
  runs = w.runs ++ runs;
  paths = w.paths ++ paths;
}

-- The world after this visit, where p is the service at its place, if there is one; without one nothing is done
abbrev pub move_at : World → Move → Option Place → World
move_at w m None = w
move_at w m (Some p) =
    move_by w m.at p (turn_of m.rule m.answers w.last p) (runs_of m.rule m.answers w.last p) (paths_of m.rule m.answers w.last p)

-- The world after this visit
abbrev pub move : World → Move → World
move w m = move_at w m (slice_get w.places m.at)

-- The world after these visits, one after the other
abbrev pub run : World → List Move → World
run w [] = w
run w (m ∷ ms) = run (move w m) ms

-- The visits of a round by a rule, one for each of the answers, to the services from this place on
abbrev pub moves_from : ℕ → Rule → List Answers → List Move
moves_from at rule [] = []
moves_from at rule (a ∷ more) = record { at = at; rule = rule; answers = a } ∷ moves_from (at + 1) rule more

-- Nothing was counted yet
abbrev pub nothing_counted : Tended
nothing_counted = record { started = 0; lost = 0; failed = 0 }

-- A world of these services and this last number, in which nothing was counted or called yet
abbrev pub fresh : List Place → ℕ → World
fresh places last = record { places = places; last = last; tally = nothing_counted; runs = []; paths = [] }

-- The first n services were visited by a rule, each with some answers, and the others left alone. Before it the services were `old`, `last`
-- was the last number, and r and q were the calls told; `new` and those with a prime are the same after it, and `tally` is what the round
-- counted
pub record Rounded (rule : Rule) (old : List Place) (last : ℕ) (r : Option (List RunCall)) (q : Option (List PathCall)) (n : ℕ)
    (new : List Place) (last' : ℕ) (tally : Tended) (r' : Option (List RunCall)) (q' : Option (List PathCall)) : Type 0 where
  pub answers : List Answers
  pub each : length answers ≡ n
  pub runs : List RunCall
  pub paths : List PathCall
  pub is : run (fresh old last) (moves_from 0 rule answers)
      ≡ record { places = new; last = last'; tally = tally; runs = runs; paths = paths }
  pub told_runs : Grows r runs r'
  pub told_paths : Grows q paths q'

-- 1 for a service that is Loose, and else 0
abbrev pub loose_of : State → ℕ
loose_of Down = 0
loose_of (Up g) = 0
loose_of (Loose g) = 1
loose_of GivenUp = 0

-- How many of these services are Loose
abbrev pub loose_count : List Place → ℕ
loose_count [] = 0
loose_count (p ∷ ps) = loose_of p.state + loose_count ps
