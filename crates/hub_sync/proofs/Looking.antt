-- A visit that leaves the book as it found it, and what it told of the history that it found.
use Rattle.std.proofs.Common.{◌≡◌, ℕ, ◌+◌, ◌≤◌, Bool, true, ltb, if◌then◌else◌, List, ◌++◌, length, drop, Option, Result, refl, sym, ap, ◌∙◌, subst, arith}
use Rattle.std.specs.Prelude.{Some, Ok, Err, IfOk}
use Rattle.std.proofs.Math.Seq.{drop-length}
use Rattle.std.proofs.lemmas.List.{append-nil}
use Rattle.std.proofs.lemmas.Bool.{le-ltb}
use mathlib.Core.List.{IsPrefix}
use Rattle.desk.specs.Passes.{PassState, IsSamePass}
use Rattle.desk.specs.OwnEntries.{placed}
use Rattle.desk.specs.Visits.{Visited}
use Rattle.hub_devices.specs.declared.calls.ListedRoute.{ListedRoute}
use Rattle.server_work.specs.Chains.{Sight, sight, Comes}
use Rattle.hub_machine.specs.State.{Hub}
use Rattle.hub_core.specs.Visits.{Entry, Reached, Standing, entries_of}
use Rattle.hub_core.specs.declared.start.Start.{Start}
use Rattle.hub_sync.specs.declared.calls.RouteCall.{RouteCall}
use Rattle.hub_sync.specs.Plans.{IsPlan, IsPlanFor}

-- what a book plans is the plan at the place of its history
pub planned_at : {L E : Type 0} (b : Standing) (hub : Hub → Option (List ℕ)) (routes : List ListedRoute) (r : Result L E) (items : L → List RouteCall)
    → Reached b.start (entries_of b) b.hub → IfOk r (λ (l : L). IsPlan b.hub.lives (hub b.hub) routes (items l))
    → IfOk r (λ (l : L). IsPlanFor b.start (entries_of b) hub routes (items l))
planned_at b hub routes (Ok l) items reached plan = record { state = b.hub; reached = reached; plan = plan }
planned_at b hub routes (Err e) items reached plan = tt

same_sight : {h k : List Entry} {m n : ℕ} → h ≡ k → m ≡ n → ◌≡◌ {A = Sight Entry} (record { entries = h; faults = m }) (record { entries = k; faults = n })
same_sight a b = cc (a, b)

pub record Looked (p q : PassState Entry Start) (b : Standing) : Type 0 where
  pub same : IsSamePass p q
  pub mine : q.mine ≡ p.mine
  pub failed : q.failed ≡ p.failed
  pub comes : Comes p.alone (sight p) (sight q)
  pub seen : q.seen ≡ entries_of b

pub looked : (p q : PassState Entry Start) (b b' : Standing) → b' ≡ b
    → Visited entries_of (λ (s : Standing). s.start) (λ (s : Standing). s.faults) p q b b' → Looked p q b
looked p q b b' still visit =
    let entries : entries_of b' ≡ entries_of b = ap entries_of still in
    let faults : b'.faults ≡ b.faults = ap (λ (s : Standing). s.faults) still in
    let seen : q.seen ≡ entries_of b = visit.seen ∙ entries in
    let none : ◌≡◌ {A = ℕ} (if ltb b.faults b'.faults then 1 else 0) 0 = ap {B = ℕ} (λ (t : Bool). if t then 1 else 0) (le-ltb b.faults b'.faults (omega (arith, faults))) in
    record {
      same = visit.same;
      mine = visit.mine ∙ (ap (λ h. p.mine ++ placed (length (entries_of b)) h) (ap (drop (length (entries_of b))) entries ∙ drop-length (entries_of b)) ∙ append-nil p.mine);
      failed = omega (arith, visit.failed, none);
      comes = (
        subst (λ (h : List Entry). IsPrefix p.seen h) (sym seen) visit.begins,
        omega (arith, visit.known, visit.count, faults),
        λ alone. same_sight (seen ∙ visit.whole alone) (visit.count ∙ faults ∙ visit.exact alone),
      );
      seen = seen;
    }

same_start : (base : Option Start) (found start : Start) → base ≡ Some found → base ≡ Some start → found ≡ start
same_start base found start first second = cc

-- what was planned at the place that the book stood at was planned at the place that the pass came to
pub plan_seen : {L E : Type 0} (start : Start) (p q : PassState Entry Start) (b b' : Standing) (hub : Hub → Option (List ℕ)) (routes : List ListedRoute) (r : Result L E)
    (items : L → List RouteCall) → p.base ≡ Some start → b' ≡ b
    → Visited entries_of (λ (s : Standing). s.start) (λ (s : Standing). s.faults) p q b b'
    → IfOk r (λ (l : L). IsPlanFor b.start (entries_of b) hub routes (items l)) → IfOk r (λ (l : L). IsPlanFor start q.seen hub routes (items l))
plan_seen start p q b b' hub routes r items base still visit plan =
    subst (λ (h : List Entry). IfOk r (λ l. IsPlanFor start h hub routes (items l))) (sym (visit.seen ∙ ap entries_of still))
    (subst (λ (s : Start). IfOk r (λ l. IsPlanFor s (entries_of b) hub routes (items l))) (same_start p.base b.start start visit.found_base base) plan)
