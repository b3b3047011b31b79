-- What a look leaves and finds, and what was gained since it.
use Rattle.std.proofs.Common.{◌≡◌, ℕ, ◌+◌, ◌<◌, ◌≤◌, ◌^◌, Bool, true, ltb, if◌then◌else◌, List, [], ◌++◌, length, drop, map, Option, Result, refl, sym, ap, ◌∙◌, subst, append_assoc, arith}
use Rattle.std.specs.Prelude.{All, Some, Ok, Err, IfOk}
use Rattle.std.proofs.Math.Seq.{drop-length}
use Rattle.std.proofs.lemmas.Bool.{le-ltb}
use Rattle.std.proofs.lemmas.List.{append-nil}
use Rattle.std.proofs.lemmas.List.Elements.{All-map}
use mathlib.Core.List.{IsPrefix}
use Rattle.desk.specs.Passes.{PassState}
use Rattle.desk.specs.OwnEntries.{placed}
use Rattle.desk.specs.Visits.{Visited}
use Rattle.hub_devices.specs.declared.calls.Spawning.{Spawning}
use Rattle.hub_devices.specs.declared.calls.Routing.{Routing}
use Rattle.hub_devices.specs.declared.calls.Told.{Told}
use Rattle.hub_devices.specs.Calls.{Grows}
use Rattle.server_work.specs.declared.work.Work.{Work}
use Rattle.server_work.specs.Chains.{Sight, At}
use Rattle.server_work.specs.Gains.{Gain, Gains, without_place}
use Rattle.hub_core.specs.Live.{AreAdopting}
use Rattle.hub_core.specs.Visits.{Entry, Reached, Standing, entries_of}
use Rattle.hub_core.specs.declared.live.LiveServer.{LiveServer}
use Rattle.hub_core.specs.declared.start.Start.{Start}
use Rattle.hub_core.specs.Views.{View, at_chain}
use Rattle.hub_adopt.specs.Adopting.{Looks, work_of}
use Rattle.hub_adopt.specs.Found.{AreFound}

-- what a book tells was found at the place of its history
pub found_at : {L E : Type 0} (b : Standing) (r : Result L E) (items : L → List LiveServer) → Reached b.start (entries_of b) b.hub
    → IfOk r (λ (l : L). AreAdopting b.hub.lives (items l)) → IfOk r (λ (l : L). All (λ (s : LiveServer). s.generation < 2 ^ 63) (items l))
    → IfOk r (λ (l : L). AreFound b.start (entries_of b) (items l) × All (λ (s : LiveServer). s.generation < 2 ^ 63) (items l))
found_at b (Ok l) items reached listed small = (record { state = b.hub; reached = reached; adopting = listed }, small)
found_at b (Err e) items reached listed small = tt

same_sight : {h k : List Entry} {m n : ℕ} → h ≡ k → m ≡ n → ◌≡◌ {A = Sight Entry} (record { entries = h; faults = m }) (record { entries = k; faults = n })
same_sight a b = cc (a, b)

-- a visit that left the book as it found it
pub looks : (x : View) (q : PassState Entry Start) (b b' : Standing) → b' ≡ b
    → Visited entries_of (λ (s : Standing). s.start) (λ (s : Standing). s.faults) x.pass q b b' → Looks x (record x { pass = q })
looks x q b b' still visit =
    let entries : entries_of b' ≡ entries_of b = ap entries_of still in
    let faults : b'.faults ≡ b.faults = ap (λ (s : Standing). s.faults) still in
    let seen : q.seen ≡ entries_of b = visit.seen ∙ entries in
    record {
      comes = (
        subst (λ (h : List Entry). IsPrefix x.pass.seen h) (sym seen) visit.begins,
        omega (arith, visit.known, visit.count, faults),
        λ alone. same_sight (seen ∙ visit.whole alone) (visit.count ∙ faults ∙ visit.exact alone),
      );
      same = visit.same;
      mine = visit.mine ∙ (ap (λ h. x.pass.mine ++ placed (length (entries_of b)) h) (ap (drop (length (entries_of b))) entries ∙ drop-length (entries_of b)) ∙ append-nil x.pass.mine);
      failed =
          let none : ◌≡◌ {A = ℕ} (if ltb b.faults b'.faults then 1 else 0) 0 = ap {B = ℕ} (λ (t : Bool). if t then 1 else 0) (le-ltb b.faults b'.faults (omega (arith, faults))) in
          omega (arith, visit.failed, none);
      clock = refl;
      draws = refl;
      spawner = refl;
      routes = refl;
      faults = refl;
    }

same_start : (base : Option Start) (found start : Start) → base ≡ Some found → base ≡ Some start → found ≡ start
same_start base found start first second = cc

-- what it found it found at the place that the pass came to
pub finds : (start : Start) (p q : PassState Entry Start) (b b' : Standing) (servers : List LiveServer) → p.base ≡ Some start → b' ≡ b
    → Visited entries_of (λ (s : Standing). s.start) (λ (s : Standing). s.faults) p q b b' → AreFound b.start (entries_of b) servers → AreFound start q.seen servers
finds start p q b b' servers base still visit found =
    subst (λ (h : List Entry). AreFound start h servers) (sym (visit.seen ∙ ap entries_of still))
    (subst (λ (s : Start). AreFound s (entries_of b) servers) (same_start p.base b.start start visit.found_base base) found)

pub all_small : (servers : List LiveServer) (works : List Work) → works ≡ map work_of servers → All (λ (s : LiveServer). s.generation < 2 ^ 63) servers
    → All (λ (w : Work). w.generation < 2 ^ 63) works
all_small servers works are small =
    subst (All (λ (w : Work). w.generation < 2 ^ 63)) (sym are) (All-map (λ (w : Work). w.generation < 2 ^ 63) work_of servers small)

further : (xs ys zs : List Entry) → IsPrefix xs ys → IsPrefix ys zs → IsPrefix xs zs
further xs ys zs first second = (first.0 ++ second.0, sym (append_assoc xs first.0 second.0) ∙ (ap (λ l. l ++ second.0) first.1 ∙ second.1))

-- a look gains nothing
pub gains_since : (x z : View) (t : Gain Entry) (y : At Entry Start) → Looks x z → Gains (at_chain z) t y → Gains (at_chain x) t y
gains_since x z t y look gains =
    let same = look.same in
    record {
      same = (gains.same.0 ∙ same.0, gains.same.1 ∙ same.1, gains.same.2 ∙ same.2);
      begins = further x.pass.seen z.pass.seen y.pass.seen look.comes.0 gains.begins;
      counted = omega (arith, look.comes.1, gains.counted);
      alone = λ alone. gains.alone (same.2 ∙ alone) ∙ ap (λ (h : List Entry). h ++ map without_place t.entries) (ap (λ (s : Sight Entry). s.entries) (look.comes.2 alone));
      still = λ alone none. gains.still (same.2 ∙ alone) none ∙ ap (λ (s : Sight Entry). s.faults) (look.comes.2 alone);
      mine = gains.mine ∙ ap (λ (m : List (ℕ × Entry)). m ++ t.entries) look.mine;
      failed = gains.failed ∙ ap (λ (n : ℕ). n + t.failed) look.failed;
      spawner = subst (λ (s : Option (List (Spawning × Told))). Grows s t.spawner y.spawner) look.spawner gains.spawner;
      routes = subst (λ (s : Option (List (Routing × Told))). Grows s t.routes y.routes) look.routes gains.routes;
    }
