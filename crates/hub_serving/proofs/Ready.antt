-- What is known at the end of the serving.
use Rattle.std.proofs.Common.{◌≡◌, ◌≤◌, ◌==◌, ◌∙◌, ◌↔◌, inl, inr, ℕ, Bool, IsTrue, true, false, not, List, [], ◌∷◌, map, All, Option, Some, Result, Ok, Err, IfOk, IfErr, is_ok, refl, sym, ap, subst, arith}
use Rattle.std.proofs.lemmas.List.Elements.{All-map, All-nil, All-weaker}
use mathlib.Core.List.{IsPrefix}
use Rattle.atomic_table.specs.Seated.{TableId}
use Rattle.desk.specs.OwnEntries.{placed}
use Rattle.desk.specs.Passes.{PassState, IsSamePass, opening}
use Rattle.hub_devices.specs.Calls.{Grows}
use Rattle.hub_devices.specs.Faults.{Rises}
use Rattle.hub_devices.specs.declared.calls.Routing.{Routing}
use Rattle.hub_devices.specs.declared.calls.Spawning.{Spawning}
use Rattle.hub_devices.specs.declared.calls.Told.{Told}
use Rattle.keeper.specs.Rows.{Rows}
use Rattle.server_work.specs.Chains.{Comes, Sight, sight}
use Rattle.server_work.specs.declared.adopt.Adopted.{Adopted}
use Rattle.hub_core.specs.Visits.{Entry, Reached, Standing, entries_of}
use Rattle.hub_core.specs.declared.kit.HubKit.{HubKit}
use Rattle.hub_core.specs.declared.start.Start.{Start}
use Rattle.hub_machine.specs.KeptRows.{Keeps}
use Rattle.hub_run.specs.Connections.{StreamTold}
use Rattle.hub_run.specs.Turns.{Faults, View}
use Rattle.hub_adopt.specs.Adopting.{Looks, TakesBack}
use Rattle.hub_serve.specs.Ends.{IsFault}
use Rattle.hub_serve.specs.Given.{GaveMore}
use Rattle.hub_serve.specs.Sessions.{AreServed, DevicesTold, IsConnectionOver, GoFrom, Session, devices_after, devices_before, devices_of, session_of, sessions_of}
use Rattle.hub_serve.specs.Shifts.{AreOf, Spans, kit_after, kit_before, shifts_of}
use Rattle.hub_serve.specs.declared.serving.ServeFault.{ServeFault}
use Rattle.hub_serve.specs.declared.serving.ServeFault.TheVariants as fault
use Rattle.hub_serve.specs.declared.tally.Connection.{Connection}
use Rattle.hub_serve.specs.declared.tally.Tally.{Tally}
use Rattle.hub_sync.specs.Plans.{IsPlanAt}
use Rattle.hub_sync.specs.Syncing.{SyncTold}
use Rattle.hub_sync.specs.declared.calls.Synced.{Synced}
use Rattle.hub_sync.specs.declared.calls.SyncFault.{SyncFault}
use Rattle.hub_sync.specs.declared.calls.SyncFault.TheVariants as sync
use Rattle.hub_main.specs.Served.{HasKept, kit_in}
use Rattle.hub_main.specs.Told.{KitTold}
use Rattle.hub_main.specs.declared.cause.Cause.TheVariants.{Memory}
use Rattle.hub_main.proofs.Passes.{last_state}
use Rattle.hub_serving.specs.Hall.{DoorsTold, Hall, IsQuiet, NothingAccepted, SidesTell, at_view, view_in}
use Rattle.service_doors.specs.Tending.{ServicesTold}
use Rattle.hub_serving.specs.Ends.{End, IsWritten, served_line, stream_told}
use Rattle.hub_serving.specs.Served.{AreGiven, AreServedBy, Attends, EndsBy, EndsDesk, EndsOver, EndsReady, EndsSynced, HasServed, IsUntouched, Serves, Syncs, served_by}
use Rattle.hub_serving.specs.declared.end.Ended.{Ended}
use Rattle.hub_serving.specs.declared.end.NotServed.{NotServed}
use Rattle.hub_serving.specs.declared.end.NotServed.TheVariants.{Because}
use Rattle.hub_serving.specs.declared.plan.Plan.{Plan}

pub still : (h : Hall) → IsQuiet h h
still h = record { output = refl; doors = refl; clock = refl; kit = refl; kits = refl; services = refl }

pub calm : (h : Hall) → NothingAccepted h h
calm h = record { output = refl; doors = refl; clock = refl; kit = refl }

-- ---- how the serving ended

unlike : (b : Bool) → b ≡ true → b ≡ false → ⊥
unlike b is not_so = absurd cc

twice : (b : Bool) → not (not b) ≡ b
twice true = refl
twice false = refl

-- the listener's fault
fault_of : (served : Result Unit ServeFault) (count before after : ℕ) → IfErr served (IsFault count before after)
    → (served ≡ Err fault.Memory → ⊥) → not (is_ok served) ≡ true → Rises before after
fault_of (Ok done) count before after faults begun failed = absurd (unlike _ failed refl)
fault_of (Err (fault.Listener n)) count before after faults begun failed = faults.1
fault_of (Err fault.Memory) count before after faults begun failed = absurd (begun refl)

-- no memory before the first connection: none was served
none_counted : (served : Result Unit ServeFault) (count before after : ℕ) → IfErr served (IsFault count before after) → served ≡ Err fault.Memory → count ≡ 0
none_counted served count before after faults wanting = subst (λ (r : Result Unit ServeFault). IfErr r (IsFault count before after)) wanting faults

abbrev doors_told : {D : Type 0} → (D → Option ℕ) → (D → ℕ) → D → DoorsTold
doors_told given faults doors = record { given = given doors; faults = faults doors }

abbrev told_doors : Option ℕ → ℕ → DoorsTold
told_doors given faults = record { given = given; faults = faults }

-- a hub that served, and one that found no memory
module _ {O D : Type 0} (held : O → Option (List ℕ)) (write_faults : O → ℕ) (given : D → Option ℕ) (door_faults : D → ℕ) (o o' : O) (d d' : D)
    (clock : Option (ℕ → ℕ)) (kit : KitTold) (kits kits' : List DevicesTold) (s s' : ServicesTold) where
  abbrev before : Hall
  before = record { output = stream_told held write_faults o; doors = doors_told given door_faults d; clock = clock; kit = kit; kits = kits; services = s }

  abbrev after : Hall
  after = record { output = stream_told held write_faults o'; doors = doors_told given door_faults d'; clock = clock; kit = kit; kits = kits'; services = s' }

  pub serves : (connections tally count : ℕ) (served : Result Unit ServeFault) (end : End) → count ≡ tally
      → GaveMore (given d) tally (given d') → tally ≤ connections → is_ok served ≡ (tally == connections)
      → IfErr served (IsFault tally (door_faults d) (door_faults d'))
      → (served ≡ Err fault.Memory → (given d' ≡ given d) × (door_faults d' ≡ door_faults d))
      → IfOk end (λ e. (e.count ≡ count) × (e.failed ≡ not (is_ok served))
      × IsWritten (served_line count) (stream_told held write_faults o) (stream_told held write_faults o') e.line)
      → IfErr end (λ why. (why ≡ Because Memory) × (served ≡ Err fault.Memory) × (o' ≡ o))
      → (served ≡ Err fault.Memory → is_ok end ≡ false) → Serves connections before after end
  serves connections tally count served (Ok e) is gave most all faults quiet told untold begun =
      let same : e.count ≡ tally = told.0 ∙ is in record {
        given = subst (λ (n : ℕ). GaveMore (given d) n (given d')) (sym same) gave;
        most = subst (λ (n : ℕ). n ≤ connections) (sym same) most;
        all = ap not told.1 ∙ twice (is_ok served) ∙ all ∙ ap (λ (n : ℕ). n == connections) (sym same);
        fault = λ failed. fault_of served tally (door_faults d) (door_faults d') faults (λ wanting. unlike _ refl (begun wanting)) (sym told.1 ∙ failed);
        line = subst (λ (n : ℕ). IsWritten (served_line n) (stream_told held write_faults o) (stream_told held write_faults o') e.line) (sym told.0) told.2;
        clock = refl;
        kit = refl;
      }
  serves connections tally count served (Err why) is gave most all faults quiet told untold begun = (
    untold.0,
    record {
      output = ap (λ (x : O). stream_told held write_faults x) untold.2;
      doors = ap (λ (g : Option ℕ). told_doors g (door_faults d')) (quiet untold.1).0
          ∙ ap (λ (n : ℕ). told_doors (given d) n) (quiet untold.1).1;
      clock = refl;
      kit = refl;
    },
  )

-- ---- how many sessions there are

-- what is said of a tally's sessions, by the number that was counted of it
pub as_counted : (Sides : Option (List ℕ) → Option (List ℕ) → Type 0) (start : Start) (pass : PassState Entry Start) (entries : List Entry) (number told : ℕ)
    (workers : List (List Session)) (kits kits' : List DevicesTold) → told ≡ number → AreServed start pass entries number workers → AreGiven Sides workers
    → AreOf devices_before devices_after kits workers kits' → AreServedBy Sides start pass entries told kits kits'
as_counted Sides start pass entries number told workers kits kits' same are given devices =
    (workers, subst (λ (n : ℕ). AreServed start pass entries n workers) (sym same) are, given, devices)

module _ {O D : Type 0} (held : O → Option (List ℕ)) (write_faults : O → ℕ) (door_faults : D → ℕ) (o o' : O) (d d' : D) where
  -- the sessions are as many as the end tells
  pub as_told : (count : ℕ) (served : Result Unit ServeFault) (end : End) → IfErr served (IsFault count (door_faults d) (door_faults d'))
      → IfOk end (λ e. (e.count ≡ count) × (e.failed ≡ not (is_ok served))
      × IsWritten (served_line count) (stream_told held write_faults o) (stream_told held write_faults o') e.line)
      → IfErr end (λ why. (why ≡ Because Memory) × (served ≡ Err fault.Memory) × (o' ≡ o)) → count ≡ served_by end
  as_told count served (Ok e) faults told untold = sym told.0
  as_told count served (Err why) faults told untold = none_counted served count (door_faults d) (door_faults d') faults untold.1

-- ---- the sides of the sessions

module _ {S P C R I O : Type 0} (to_come : C → Option (ℕ → ℕ)) (draws : R → Option (List (List ℕ))) (spawned : S → Option (List (Spawning × Told)))
    (linked : P → Option (List (Routing × Told))) (draw_faults : R → ℕ) (spawn_faults : S → ℕ) (route_faults : P → ℕ)
    (told : I → StreamTold) (wrote : O → StreamTold) (are_sides : I → O → Type 0) where
  abbrev Served : Type 0
  Served = Connection (PassState Entry Start) (HubKit S P C R) I O

  abbrev session : Served → Session
  session = session_of to_come draws spawned linked draw_faults spawn_faults route_faults told wrote

  abbrev IsGiven : Session → Type 0
  IsGiven s = SidesTell are_sides (λ i. (told i).bytes) (λ o. (wrote o).bytes) s.before.input.bytes s.before.output.bytes

  abbrev IsSided : Served → Type 0
  IsSided c = are_sides c.before.input.value c.before.output.value

  of_shift : (cs : List Served) → All IsSided cs → All IsGiven (map session cs)
  of_shift cs each = All-map IsGiven session cs
      (All-weaker IsSided (λ (c : Served). IsGiven (session c)) (λ c are. (c.before.input.value, c.before.output.value, are, refl, refl)) cs each)

  -- what `serve` says of the two sides of each connection, by what they tell
  pub given_sides : (tally : Tally (PassState Entry Start) (HubKit S P C R) I O) → All (λ cs. All IsSided cs) (shifts_of tally)
      → AreGiven (SidesTell are_sides (λ i. (told i).bytes) (λ o. (wrote o).bytes)) (sessions_of to_come draws spawned linked draw_faults spawn_faults route_faults told wrote tally)
  given_sides tally each = All-map (λ ss. All IsGiven ss) (λ cs. map session cs) (shifts_of tally)
      (All-weaker (λ cs. All IsSided cs) (λ cs. All IsGiven (map session cs)) of_shift (shifts_of tally) each)

-- ---- the devices of the sessions

-- what is said of kits and of those who had them, by what they tell
module _ {X K Y L : Type 0} (before after : X → K) (first last : Y → L) (tell : K → L) (turn : X → Y) (begins : (x : X) → first (turn x) ≡ tell (before x))
    (ends : (x : X) → last (turn x) ≡ tell (after x)) where
  tell_span : (k : K) (xs : List X) (k' : K) → Spans before after k xs k' → Spans first last (tell k) (map turn xs) (tell k')
  tell_span k [] k' h = ap tell h
  tell_span k (x ∷ xs) k' h = (
    ap tell h.0 ∙ sym (begins x),
    subst (λ l. Spans first last l (map turn xs) (tell k')) (sym (ends x)) (tell_span (after x) xs k' h.1),
  )

  tell_kits : (ks : List K) (xss : List (List X)) (ks' : List K) → AreOf before after ks xss ks'
      → AreOf first last (map tell ks) (map (λ xs. map turn xs) xss) (map tell ks')
  tell_kits ks [] ks' h = ap (λ l. map tell l) h
  tell_kits [] (xs ∷ xss) ks' h = absurd h
  tell_kits (k ∷ ks) (xs ∷ xss) [] h = absurd h
  tell_kits (k ∷ ks) (xs ∷ xss) (k' ∷ ks') h = (tell_span k xs k' h.0, tell_kits ks xss ks' h.1)

module _ {S P C R I O : Type 0} (to_come : C → Option (ℕ → ℕ)) (draws : R → Option (List (List ℕ))) (spawned : S → Option (List (Spawning × Told)))
    (linked : P → Option (List (Routing × Told))) (draw_faults : R → ℕ) (spawn_faults : S → ℕ) (route_faults : P → ℕ)
    (told : I → StreamTold) (wrote : O → StreamTold) where
  pub given_devices : (tally : Tally (PassState Entry Start) (HubKit S P C R) I O) (kits kits' : List (HubKit S P C R))
      → AreOf kit_before kit_after kits (shifts_of tally) kits'
      → AreOf devices_before devices_after (map (devices_of to_come draws spawned linked draw_faults spawn_faults route_faults) kits)
      (sessions_of to_come draws spawned linked draw_faults spawn_faults route_faults told wrote tally)
      (map (devices_of to_come draws spawned linked draw_faults spawn_faults route_faults) kits')
  given_devices tally kits kits' are = tell_kits kit_before kit_after devices_before devices_after
      (devices_of to_come draws spawned linked draw_faults spawn_faults route_faults)
      (session_of to_come draws spawned linked draw_faults spawn_faults route_faults told wrote) (λ c. refl) (λ c. refl) kits (shifts_of tally) kits' are

-- ---- no session

-- the desk of a pass that is alone was closed: its book has what the pass had made
pub none_served : (Sides : Option (List ℕ) → Option (List ℕ) → Type 0) (start : Start) (pass : PassState Entry Start) (entries : List Entry) → pass.alone ≡ true
    → (pass.alone ≡ true → entries ≡ pass.seen) → (pass.alone ≡ true → pass.mine ≡ placed 0 pass.seen)
    → (kits : List DevicesTold) → AreServedBy Sides start pass entries 0 kits kits
none_served Sides start pass entries alone whole own kits = (
  [],
  record {
    count = refl;
    each = All-nil (λ (ss : List Session). All (IsConnectionOver start) ss);
    follow = All-nil (GoFrom pass);
    whole = ap (λ (e : List Entry). placed 0 e) (whole alone) ∙ sym (own alone);
  },
  All-nil (λ (ss : List Session). All (λ s. Sides s.before.input.bytes s.before.output.bytes) ss),
  refl,
)

same_start : (base : Option Start) (found start : Start) → base ≡ Some found → base ≡ Some start → found ≡ start
same_start base found start first second = cc

-- ---- a pass that looked

pub looked_kit : (x y : View) → Looks x y → kit_in y ≡ kit_in x
looked_kit x y looks =
    ap (λ draws. record { draws = draws; spawner = y.spawner; routes = y.routes; faults = y.faults }) looks.draws
    ∙ ap (λ spawner. record { draws = x.draws; spawner = spawner; routes = y.routes; faults = y.faults }) looks.spawner
    ∙ ap (λ routes. record { draws = x.draws; spawner = x.spawner; routes = routes; faults = y.faults }) looks.routes
    ∙ ap (λ faults. record { draws = x.draws; spawner = x.spawner; routes = x.routes; faults = faults }) looks.faults

pub looked_seen : (x y : View) → Looks x y → x.pass.alone ≡ true → y.pass.seen ≡ x.pass.seen
looked_seen x y looks alone = ap (λ (s : Sight Entry). s.entries) (looks.comes.2 alone)

-- ---- routes in step

not_both : (b : Bool) → b ≡ false → IsTrue b → ⊥
not_both b off on = grind arith

-- the view after the call: its pass, its calls on the route link and the count of that link's faults, and everything else as it was
pub in_step : (start : Start) (hub asked : Option (List ℕ)) (x y : View) (answer : Result Synced SyncFault) → asked ≡ hub
    → IsSamePass x.pass y.pass → Comes x.pass.alone (sight x.pass) (sight y.pass) → y.pass.mine ≡ x.pass.mine → y.pass.failed ≡ x.pass.failed
    → (told : List (Routing × Told)) × Grows x.routes told y.routes × SyncTold (IsPlanAt start y.pass.seen asked) told answer
    → x.faults.routes ≤ y.faults.routes → (answer ≡ Err sync.Routes → Rises x.faults.routes y.faults.routes)
    → y.clock ≡ x.clock → y.draws ≡ x.draws → y.spawner ≡ x.spawner → y.faults.random ≡ x.faults.random → y.faults.spawner ≡ x.faults.spawner
    → Syncs start hub x answer y
in_step start hub asked x y answer is same comes mine failed (told, calls, does) counted fault clock draws spawner random spawns = record {
  same = same;
  comes = comes;
  mine = mine;
  failed = failed;
  told = told;
  calls = calls;
  does = subst (λ (target : Option (List ℕ)). SyncTold (IsPlanAt start y.pass.seen target) told answer) is does;
  fault = fault;
  counted = counted;
  clock = clock;
  draws = draws;
  spawner = spawner;
  random = random;
  spawns = spawns;
}

module _ {K : Type 0} (Tells : K → Type 0) (rows : K → Rows) (faults : K → ℕ) (Sides : Option (List ℕ) → Option (List ℕ) → Type 0) where
  -- a book that was closed with these entries
  pub kept_at : (start : Start) (base : Option Start) (entries : List Entry) (k' : K) (book : Standing) → base ≡ Some book.start → base ≡ Some start
      → entries_of book ≡ entries → Reached book.start (entries_of book) book.hub → (Tells k' → Keeps (rows k') book.hub.tables)
      → HasKept Tells rows faults start entries k'
  kept_at start base entries k' book found given seen reached kept =
      record { state = book.hub; reached = last_state start base entries book found given seen reached; kept = kept }

  pub ready : (start : Start) (pass : PassState Entry Start) (plan : Plan) (h h' : Hall) (k' : K) (end : End) (book : Standing) (number : ℕ)
      → Serves plan.connections h h' end → Attends plan.managed h h' end → IsPrefix pass.seen (entries_of book)
      → pass.base ≡ Some book.start → pass.base ≡ Some start → number ≡ served_by end
      → AreServedBy Sides book.start pass (entries_of book) number h.kits h'.kits → Reached book.start (entries_of book) book.hub → (Tells k' → Keeps (rows k') book.hub.tables)
      → EndsReady Tells rows faults Sides start pass plan h h' k' end
  ready start pass plan h h' k' end book number serves services begins found given counted (workers, are, sides, devices) reached kept = record {
    serves = serves;
    services = services;
    entries = entries_of book;
    begins = begins;
    workers = workers;
    are = subst (λ (s : Start). AreServed s pass (entries_of book) (served_by end) workers) (same_start pass.base book.start start found given)
        (subst (λ (n : ℕ). AreServed book.start pass (entries_of book) n workers) counted are);
    given = sides;
    devices = devices;
    kept = kept_at start pass.base (entries_of book) k' book found given refl reached kept;
  }

  -- there was no memory for the services
  pub unattended : (start : Start) (pass : PassState Entry Start) (plan : Plan) (h : Hall) (k' : K) (book : Standing)
      → pass.alone ≡ true → IsPrefix pass.seen (entries_of book) → (pass.alone ≡ true → entries_of book ≡ pass.seen)
      → (pass.alone ≡ true → pass.mine ≡ placed 0 pass.seen) → pass.base ≡ Some book.start → pass.base ≡ Some start
      → Reached book.start (entries_of book) book.hub → (Tells k' → Keeps (rows k') book.hub.tables)
      → EndsReady Tells rows faults Sides start pass plan h h k' (Err (Because Memory))
  unattended start pass plan h k' book alone begins whole own found given reached kept =
      ready start pass plan h h k' (Err (Because Memory)) book 0 (refl, calm h) (inr (refl, refl)) begins found given refl
      (none_served Sides book.start pass (entries_of book) alone whole own h.kits) reached kept

  -- the routes were brought into step, or their link failed, and then connections were served
  pub by_synced : (start : Start) (pass : PassState Entry Start) (synced : View) (answer : Result Synced SyncFault) (wanting : Bool) (plan : Plan) (h h' : Hall)
      (k' : K) (end : End) → Syncs start plan.hub.hub_url (view_in pass h) answer synced → IsTrue wanting ↔ (answer ≡ Err sync.Memory) → wanting ≡ false
      → EndsReady Tells rows faults Sides start synced.pass plan (at_view h synced) h' k' end
      → EndsSynced Tells rows faults Sides start pass plan h h' k' end
  by_synced start pass synced answer wanting plan h h' k' end syncs tells some ends = record {
    answer = answer;
    synced = synced;
    syncs = syncs;
    wanting = λ is. absurd (not_both wanting some (tells.1 is));
    ends = ends;
  }

  -- there was no memory for that
  pub unsynced : (start : Start) (pass : PassState Entry Start) (synced : View) (answer : Result Synced SyncFault) (plan : Plan) (h : Hall)
      (k' : K) (book : Standing) → Syncs start plan.hub.hub_url (view_in pass h) answer synced
      → synced.pass.alone ≡ true → IsPrefix synced.pass.seen (entries_of book) → (synced.pass.alone ≡ true → entries_of book ≡ synced.pass.seen)
      → (synced.pass.alone ≡ true → synced.pass.mine ≡ placed 0 synced.pass.seen)
      → synced.pass.base ≡ Some book.start → synced.pass.base ≡ Some start
      → Reached book.start (entries_of book) book.hub → (Tells k' → Keeps (rows k') book.hub.tables)
      → EndsSynced Tells rows faults Sides start pass plan h (at_view h synced) k' (Err (Because Memory))
  unsynced start pass synced answer plan h k' book syncs alone begins whole own found given reached kept = record {
    answer = answer;
    synced = synced;
    syncs = syncs;
    wanting = λ is. refl;
    ends = unattended start synced.pass plan (at_view h synced) k' book alone begins whole own found given reached kept;
  }

  -- the running servers were taken back, and then the routes brought into step and connections served
  pub by_adopted : (start : Start) (pass : PassState Entry Start) (ready : View) (told : Adopted) (plan : Plan) (h h' : Hall) (k' : K) (end : End)
      → TakesBack start (view_in pass h) told ready → EndsSynced Tells rows faults Sides start ready.pass plan (at_view h ready) h' k' end
      → EndsDesk Tells rows faults Sides start pass plan h h' k' end
  by_adopted start pass ready told plan h h' k' end takes ends = inr (record { told = told; ready = ready; takes = takes; ends = ends })

  -- the pass looked, and memory was wanting
  pub looked : (start : Start) (base : Option Start) (pass : PassState Entry Start) (plan : Plan) (h h' : Hall) (x y : View) (k' : K) (book : Standing)
      → Looks x y → x.pass.alone ≡ true → x.pass.seen ≡ [] → kit_in x ≡ h.kit → kit_in y ≡ h'.kit → x.clock ≡ h.clock → y.clock ≡ h'.clock
      → h'.output ≡ h.output → h'.doors ≡ h.doors → h'.kits ≡ h.kits → h'.services ≡ h.services → base ≡ Some book.start → base ≡ Some start → entries_of book ≡ y.pass.seen
      → Reached book.start (entries_of book) book.hub → (Tells k' → Keeps (rows k') book.hub.tables)
      → EndsDesk Tells rows faults Sides start pass plan h h' k' (Err (Because Memory))
  looked start base pass plan h h' x y k' book looks alone new before after early late output doors kits services found given seen reached kept = inl (record {
    wanting = refl;
    quiet = record {
      output = output;
      doors = doors;
      clock = sym late ∙ looks.clock ∙ early;
      kit = sym after ∙ looked_kit x y looks ∙ before;
      kits = kits;
      services = services;
    };
    kept = kept_at start base [] k' book found given (seen ∙ looked_seen x y looks alone ∙ new) reached kept;
  })

  -- the first pass of a book without entries
  pub over_opened : (book : Standing) (plan : Plan) (h h' : Hall) (k' : K) (end : End) (table : TableId) (pass : PassState Entry Start)
      → pass ≡ opening table book.start (entries_of book) book.faults → entries_of book ≡ []
      → ((start : Start) → pass.base ≡ Some start → EndsDesk Tells rows faults Sides start pass plan h h' k' end)
      → EndsOver Tells rows faults Sides book.start book.faults plan h h' k' end
  over_opened book plan h h' k' end table pass first none ends =
      let first' : pass ≡ opening table book.start [] book.faults = first ∙ ap (λ (e : List Entry). opening table book.start e book.faults) none in
      inr (
        table,
        subst (λ (p : PassState Entry Start). EndsDesk Tells rows faults Sides book.start p plan h h' k' end) first'
            (ends book.start (ap (λ (p : PassState Entry Start). p.base) first')),
      )

  -- no memory for a pass
  pub untouched : (book back : Standing) (plan : Plan) (h : Hall) (k' : K) → back ≡ book → entries_of book ≡ []
      → Reached back.start (entries_of back) back.hub → (Tells k' → Keeps (rows k') back.hub.tables)
      → EndsOver Tells rows faults Sides book.start book.faults plan h h k' (Err (Because Memory))
  untouched book back plan h k' same none reached kept = inl (record {
    wanting = refl;
    quiet = still h;
    kept = record {
      state = back.hub;
      reached = subst (λ (e : List Entry). Reached book.start e back.hub) none
          (subst (λ (b : Standing). Reached b.start (entries_of b) back.hub) same reached);
      kept = kept;
    };
  })
