-- What keeps a connection open, over one statement after the other.
use Rattle.std.proofs.Common.{inl, inr, ℕ, ◌≤◌, List, Option, Some, None, IsTrue, arith}
use Rattle.sqlite.specs.Disk.{MoreFaults}
use Rattle.sqlite.specs.Order.{Row}
use Rattle.sqlite.specs.State.{State, Survives, ShowsRows, Shown}
use Rattle.sqlite.specs.Tree.{Trees}
use Rattle.sqlite.specs.View.{doubt}
use Rattle.sqlite_resolve.specs.declared.compiled.Compiled.{Compiled}
use Rattle.sqlite_schema.specs.declared.command.Returning.{Returning}
use Rattle.row_table.specs.Open.{StaysOpen}

-- whatever a call may commit
pub survives_open : (old new : State) (Commits : Trees → Type 0) → Survives old new Commits → StaysOpen old new
survives_open old new commits s = record { counts = s.counts; closes = s.closes }

pub still_open : (s : State) → StaysOpen s s
still_open s = record { counts = omega arith; closes = λ clean is. inl is }

-- a fault that was counted early on, or late, was counted
faults_early : (a b c : ℕ) → MoreFaults a b → b ≤ c → MoreFaults a c
faults_early a b c more up = omega (arith, more, up)

faults_late : (a b c : ℕ) → a ≤ b → MoreFaults b c → MoreFaults a c
faults_late a b c up more = omega (arith, more, up)

pub open_then : (a b c : State) → StaysOpen a b → doubt b.is_clean ≤ doubt c.is_clean → StaysOpen b c → StaysOpen a c
open_then a b c first clean second = record {
  counts = omega (arith, first.counts, second.counts);
  closes = λ last was.
      elim (first.closes (omega (arith, clean, last)) was) [
        | inl mid ↦ (elim (second.closes last mid) [ inl is ↦ inl is | inr more ↦ inr (faults_late a.faults b.faults c.faults first.counts more) ])
        | inr more ↦ inr (faults_early a.faults b.faults c.faults more second.counts)
      ];
}

shows_open : (old new : State) (sql : List ℕ) (c : Compiled) (params : Row) (rows : List Row) (what : Option Returning) → ShowsRows old new sql c params rows what → IsTrue new.is_open
shows_open old new sql c params rows None h = h.3.0.is_open
shows_open old new sql c params rows (Some what) h = h.1.shown.is_open

-- a connection that showed rows is open
pub shown_open : (sql : List ℕ) (params : Row) (old new : State) (rows : List Row) → Shown sql params old new rows → IsTrue new.is_open
unfolding Shown
shown_open sql params old new rows h = shows_open old new sql h.0 _ rows h.0.returning h.2
