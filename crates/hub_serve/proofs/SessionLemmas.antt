-- What is told of the connections, as plain values.
use Rattle.std.proofs.Common.{◌≡◌, ◌+◌, ℕ, List, [], ◌∷◌, ◌++◌, map, flat_map, drop, length, All, Option, Some, Result, Ok, Err, refl, ap, ◌∙◌, subst, sym, append_assoc, append-nil, arith}
use Rattle.std.proofs.lemmas.List.{length-map}
use Rattle.std.proofs.lemmas.List.Elements.{All-nil, All-cons, All-head, All-tail, All-map, All-weaker}
use Rattle.desk.specs.OwnEntries.{placed, merged}
use Rattle.desk.specs.Passes.{PassState}
use Rattle.http_wire.specs.declared.error.SessionFault.{SessionFault}
use Rattle.http_wire.specs.declared.error.SessionFault.TheVariants.{ReadFault, WriteFault}
use Rattle.hub_devices.specs.declared.calls.Routing.{Routing}
use Rattle.hub_devices.specs.declared.calls.Spawning.{Spawning}
use Rattle.hub_devices.specs.declared.calls.Told.{Told}
use Rattle.hub_core.specs.Views.{View, view_of, at_chain}
use Rattle.hub_core.specs.Visits.{Entry}
use Rattle.hub_core.specs.declared.kit.HubKit.{HubKit}
use Rattle.hub_core.specs.declared.start.Start.{Start}
use Rattle.hub_run.proofs.GainLemmas.{turns_gain}
use Rattle.hub_run.specs.Connections.{ConnectionEnds, Known, StreamTold}
use Rattle.hub_run.specs.Gained.{turn_gain}
use Rattle.hub_run.specs.declared.served.Served.{Served}
use Rattle.hub_run.specs.declared.served.Served.TheVariants.{Ended, Cut, Closed}
use Rattle.server_work.specs.Gains.{Gain, Gains, sum_of}
use Rattle.hub_serve.specs.Sessions.{AreServed, IsConnectionOver, EndsAsConnection, Session, gained, session_of, sessions_of, with_gains}
use Rattle.hub_serve.specs.Sessions as sessions
use Rattle.hub_serve.specs.Shifts.{IsServed, IsWhole, all_own, count_of, own_of, shifts_of, split_from}
use Rattle.hub_serve.specs.Shifts as shift
use Rattle.hub_serve.specs.declared.tally.Connection.{Connection}
use Rattle.hub_serve.specs.declared.tally.Tally.{Tally}

rest_of : {X : Type 0} (xs zs : List X) → drop (length xs) (xs ++ zs) ≡ zs
rest_of [] zs = refl
rest_of (x ∷ xs) zs = rest_of xs zs

-- ---- what one connection gains

abbrev GainsSome : View → View → Type 0
GainsSome x y = (t : Gain Entry) × Gains (at_chain x) t (at_chain y)

ends_gain : (start : Start) (x y : Known) (r : Result Served SessionFault) → ConnectionEnds start x y r → GainsSome x.view y.view
ends_gain start x y (Ok (Ended n)) h = (sum_of (map turn_gain h.0), turns_gain x.view y.view h.0 h.3)
ends_gain start x y (Ok (Cut n)) h = (sum_of (map turn_gain h.0), turns_gain x.view y.view h.0 h.4)
ends_gain start x y (Ok (Closed n)) h = (sum_of (map turn_gain (h.0 ++ h.1 ∷ [])), turns_gain x.view y.view (h.0 ++ h.1 ∷ []) h.7)
ends_gain start x y (Err (ReadFault n)) h = (sum_of (map turn_gain h.0), turns_gain x.view y.view h.0 h.4)
ends_gain start x y (Err (WriteFault n)) h = (sum_of (map turn_gain (h.0 ++ h.1 ∷ [])), turns_gain x.view y.view (h.0 ++ h.1 ∷ []) h.8)

-- the base stays, and the own entries grow
session_gains : (start : Start) (s : Session) → IsConnectionOver start s
    → (s.after.view.pass.base ≡ s.before.view.pass.base) × (s.after.view.pass.mine ≡ s.before.view.pass.mine ++ gained s)
session_gains start s h =
    let gain = ends_gain start s.before s.after s.ended h.0 in
    let mine : s.after.view.pass.mine ≡ s.before.view.pass.mine ++ gain.0.entries = gain.1.mine in
    let more : gained s ≡ gain.0.entries = ap (drop (length s.before.view.pass.mine)) mine ∙ rest_of s.before.view.pass.mine gain.0.entries in
    (gain.1.same.1, mine ∙ ap (λ l. s.before.view.pass.mine ++ l) (sym more))

-- ---- what a worker gains

module _ {S P C R I O : Type 0} (to_come : C → Option (ℕ → ℕ)) (draws : R → Option (List (List ℕ))) (spawned : S → Option (List (Spawning × Told)))
    (linked : P → Option (List (Routing × Told))) (draw_faults : R → ℕ) (spawn_faults : S → ℕ) (route_faults : P → ℕ)
    (are_sides : I → O → Type 0) (told : I → StreamTold) (wrote : O → StreamTold) where
  abbrev Conn : Type 0
  Conn = Connection (PassState Entry Start) (HubKit S P C R) I O

  abbrev view : PassState Entry Start → HubKit S P C R → View
  view = view_of to_come draws spawned linked draw_faults spawn_faults route_faults

  abbrev session : Conn → Session
  session = session_of to_come draws spawned linked draw_faults spawn_faults route_faults told wrote

  abbrev IsDone : Conn → Type 0
  IsDone = IsServed are_sides (EndsAsConnection to_come draws spawned linked draw_faults spawn_faults route_faults) told wrote

  abbrev IsAll : PassState Entry Start → List Conn → Type 0
  IsAll = IsWhole are_sides (EndsAsConnection to_come draws spawned linked draw_faults spawn_faults route_faults) told wrote

  on_from : (c : Conn) (cs : List Conn) → shift.GoOn c cs → shift.GoFrom c.after.pass.value cs
  on_from c [] h = tt
  on_from c (d ∷ ds) h = (h.0, h.2)

  line : (start : Start) (p : PassState Entry Start) (cs : List Conn) → p.base ≡ Some start → shift.GoFrom p cs → All IsDone cs
      → All (IsConnectionOver start) (map session cs) × (own_of p cs ≡ p.mine ++ flat_map gained (map session cs))
  line start p [] base h done = (All-nil (IsConnectionOver start), sym (append-nil p.mine))
  line start p (c ∷ cs) base h done =
      let first : c.before.pass.value.base ≡ Some start = ap (λ q. q.base) (sym h.0) ∙ base in
      let done_first = (All-head IsDone c cs done).1 in
      let ended : IsConnectionOver start (session c) = (done_first.0 start first, done_first.1) in
      let gains = session_gains start (session c) ended in
      let rest = line start c.after.pass.value cs (gains.0 ∙ first) (on_from c cs h.1) (All-tail IsDone c cs done) in
      let more = flat_map gained (map session cs) in (
        All-cons (IsConnectionOver start) (session c) (map session cs) ended rest.0,
        rest.1 ∙ ap (λ l. l ++ more) gains.1 ∙ append_assoc c.before.pass.value.mine (gained (session c)) more
            ∙ ap (λ q. q.mine ++ (gained (session c) ++ more)) (sym h.0),
      )

  goes_on : (c : Conn) (cs : List Conn) → shift.GoOn c cs → sessions.GoOn (session c) (map session cs)
  goes_on c [] h = tt
  goes_on c (d ∷ ds) h = (ap (λ p. view p d.before.kit.value) (sym h.0) ∙ ap (view c.after.pass.value) (sym h.1), goes_on d ds h.2)

  goes_from : (p : PassState Entry Start) (cs : List Conn) → shift.GoFrom (split_from p) cs → sessions.GoFrom p (map session cs)
  goes_from p [] h = tt
  goes_from p (c ∷ cs) h = (sym h.0, goes_on c cs h.1)

  -- ---- what all of them gain

  abbrev all_sessions : List (List Conn) → List (List Session)
  all_sessions css = map (λ cs. map session cs) css

  owns : (start : Start) (p : PassState Entry Start) (mine : List (ℕ × Entry)) (css : List (List Conn)) → p.base ≡ Some start → All (IsAll (split_from p)) css
      → all_own (split_from p) mine css ≡ with_gains mine (all_sessions css)
  owns start p mine [] base all = refl
  owns start p mine (cs ∷ css) base all =
      let whole = All-head (IsAll (split_from p)) cs css all in
      let own = (line start (split_from p) cs base whole.0 whole.1).1 in
      ap (λ l. all_own (split_from p) (merged mine l) css) own
      ∙ owns start p (merged mine (flat_map gained (map session cs))) css base (All-tail (IsAll (split_from p)) cs css all)

  counts : (css : List (List Conn)) → count_of (all_sessions css) ≡ count_of css
  counts [] = refl
  counts (cs ∷ css) = let rest = counts css in omega (arith, rest, length-map cs session)

  pub are_served : (start : Start) (p q : PassState Entry Start) (entries : List Entry) (number : ℕ) (tally : Tally (PassState Entry Start) (HubKit S P C R) I O)
      → p.base ≡ Some start → All (IsAll (split_from p)) (shifts_of tally) → q.mine ≡ all_own (split_from p) p.mine (shifts_of tally)
      → count_of (shifts_of tally) ≡ number → entries ≡ q.seen → q.mine ≡ placed 0 q.seen
      → AreServed start p entries number (sessions_of to_come draws spawned linked draw_faults spawn_faults route_faults told wrote tally)
  are_served start p q entries number tally base all mine count seen own =
      let css = shifts_of tally in
      record {
        count = counts css ∙ count;
        each = All-map (λ ss. All (IsConnectionOver start) ss) (λ cs. map session cs) css
            (All-weaker (IsAll (split_from p)) (λ cs. All (IsConnectionOver start) (map session cs)) (λ cs w. (line start (split_from p) cs base w.0 w.1).0) css all);
        follow = All-map (sessions.GoFrom p) (λ cs. map session cs) css
            (All-weaker (IsAll (split_from p)) (λ cs. sessions.GoFrom p (map session cs)) (λ cs w. goes_from p cs w.0) css all);
        whole = ap (placed 0) seen ∙ sym own ∙ mine ∙ owns start p p.mine css base all;
      }

  -- the two sides of each are those of one connection
  pub are_on_sides : (p : PassState Entry Start) (css : List (List Conn)) → All (IsAll p) css
      → All (λ cs. All (λ c. are_sides c.before.input.value c.before.output.value) cs) css
  are_on_sides p css all = All-weaker (IsAll p) (λ cs. All (λ c. are_sides c.before.input.value c.before.output.value) cs)
      (λ cs w. All-weaker IsDone (λ c. are_sides c.before.input.value c.before.output.value) (λ c done. done.0) cs w.1) css all

  -- where there was none
  pub none_served : (start : Start) (p : PassState Entry Start) (entries : List Entry) (number : ℕ) (tally : Tally (PassState Entry Start) (HubKit S P C R) I O)
      → p.base ≡ Some start → shifts_of tally ≡ [] → number ≡ 0 → entries ≡ p.seen → p.mine ≡ placed 0 p.seen
      → AreServed start p entries number (sessions_of to_come draws spawned linked draw_faults spawn_faults route_faults told wrote tally)
  none_served start p entries number tally base none zero seen own =
      are_served start p p entries number tally base (subst (All (IsAll (split_from p))) (sym none) (All-nil (IsAll (split_from p))))
      (ap (all_own (split_from p) p.mine) (sym none)) (ap count_of none ∙ sym zero) seen own

  pub none_on_sides : (css : List (List Conn)) → css ≡ [] → All (λ cs. All (λ c. are_sides c.before.input.value c.before.output.value) cs) css
  none_on_sides css none = subst (All (λ cs. All (λ c. are_sides c.before.input.value c.before.output.value) cs)) (sym none)
      (All-nil (λ cs. All (λ c. are_sides c.before.input.value c.before.output.value) cs))
