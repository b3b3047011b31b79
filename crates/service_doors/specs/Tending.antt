-- Services that are tended by rounds, with what their devices tell.
use Rattle.std.specs.Prelude.{◌≡◌, ◌≤◌, ◌+◌, ℕ, zero, suc, List, length, Option, Some}
use Rattle.hub_devices.specs.ToCome.{Tells}
use Rattle.services_run.specs.Book.{Book, NoneUp}
use Rattle.services_run.specs.Calls.{PathCall, RunCall}
use Rattle.services_run.specs.New.{ArePlaced}
use Rattle.services_run.specs.Rounds.{Rounded, loose_count}
use Rattle.services_run.specs.Rules.{halting, tending}
use Rattle.services_run.specs.declared.place.Managed.{Managed}
use Rattle.services_run.specs.declared.place.Tended.{Tended}
use Rattle.service_doors.specs.declared.kit.ServiceKit.{ServiceKit}

-- the calls on the programs and on the routes, the moments to come, and the counts of faults
pub record ServicesTold : Type 0 where
  pub runs : Option (List RunCall)
  pub routes : Option (List PathCall)
  pub clock : Option (ℕ → ℕ)
  pub run_faults : ℕ
  pub route_faults : ℕ

abbrev pub services_told : {R P C : Type 0} → (R → Option (List RunCall)) → (P → Option (List PathCall)) → (C → Option (ℕ → ℕ))
    → (R → ℕ) → (P → ℕ) → ServiceKit R P C → ServicesTold
services_told runs routes to_come run_faults route_faults kit = record {
  runs = runs kit.running;
  routes = routes kit.paths;
  clock = to_come kit.clock;
  run_faults = run_faults kit.running;
  route_faults = route_faults kit.paths;
}

-- a round at the clock's next moment
pub record OneRound (b : Book) (s : ServicesTold) (b' : Book) (s' : ServicesTold) : Type 0 where
  pub now : ℕ
  pub moment : Tells s.clock now s'.clock
  pub tally : Tended
  pub rounded : Rounded (tending now) b.places b.last s.runs s.routes (length b.places) b'.places b'.last tally s'.runs s'.routes
  pub run_faults : s.run_faults ≤ s'.run_faults
  pub route_faults : s.route_faults ≤ s'.route_faults

-- so many rounds
abbrev pub Rounds : ℕ → Book → ServicesTold → Book → ServicesTold → Type 0
Rounds zero b s b' s' = (b' ≡ b) × (s' ≡ s)
Rounds (suc n) b s b' s' = (mid : Book) × (told : ServicesTold) × Rounds n b s mid told × OneRound mid told b' s'

-- a round before the first connection of a listener, and one after each that it gave
pub record Tends (b : Book) (s : ServicesTold) (given : Option ℕ) (b' : Book) (s' : ServicesTold) (given' : Option ℕ) : Type 0 where
  pub connections : ℕ
  pub gave : (n : ℕ) → given ≡ Some n → given' ≡ Some (n + connections)
  pub rounds : Rounds (suc connections) b s b' s'

-- the round of the end, and how many programs may run still
pub record Halts (b : Book) (s : ServicesTold) (b' : Book) (s' : ServicesTold) (loose : ℕ) : Type 0 where
  pub tally : Tended
  pub rounded : Rounded halting b.places b.last s.runs s.routes (length b.places) b'.places b'.last tally s'.runs s'.routes
  pub left : loose ≡ loose_count b'.places
  pub none_up : NoneUp b'.places (length b'.places)
  pub clock : s'.clock ≡ s.clock
  pub run_faults : s.run_faults ≤ s'.run_faults
  pub route_faults : s.route_faults ≤ s'.route_faults

-- the whole of it: services as they are configured, tended and stopped
pub record Attended (managed : List Managed) (s : ServicesTold) (given : Option ℕ) (s' : ServicesTold) (given' : Option ℕ) : Type 0 where
  pub begun : Book
  pub placed : ArePlaced managed begun.places × (begun.last ≡ 0)
  pub tended : Book
  pub told : ServicesTold
  pub tends : Tends begun s given tended told given'
  pub ended : Book
  pub loose : ℕ
  pub halts : Halts tended told ended s' loose
