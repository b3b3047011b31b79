-- A request and what is said to it make a turn.
use Rattle.std.proofs.Common.{◌≡◌, ◌≤◌, ◌⊎◌, inl, inr, ◌||◌, ℕ, Bool, true, List, ◌++◌, length, Option, Some, None, Result, Ok, Err, refl, sym, ap, ◌∙◌, subst, arith}
use Rattle.std.specs.Prelude.{IfSome, is_some}
use Rattle.desk.specs.Passes.{IsSamePass}
use Rattle.desk.specs.Visits.{Visited}
use Rattle.hub_devices.specs.ToCome.{Tells}
use Rattle.http_wire.specs.declared.error.WireError.{WireError}
use Rattle.http_wire.specs.declared.request.Request.{Request}
use Rattle.http_wire.specs.Request.{IsRequestText}
use Rattle.http_wire.specs.Body.{WithinRequest, AtMostDue, RequestRefusedAt}
use Rattle.hub_devices.specs.Faults.{Rises}
use Rattle.server_life.specs.declared.life.Todo.{Todo}
use Rattle.server_work.specs.declared.work.Work.{Work}
use Rattle.server_work.specs.declared.work.Device.{Device}
use Rattle.server_work.specs.declared.tale.Tale.{Tale}
use Rattle.server_work.specs.Chains.{At, Chain, ChainEnds}
use Rattle.hub_core.specs.LifeBook.{LeadsToLives, Notes}
use Rattle.hub_core.specs.Visits.{Entry, Standing, VisitedAt, entries_of}
use Rattle.hub_core.specs.declared.start.Start.{Start}
use Rattle.hub_machine.specs.Answers.{outcome_view}
use Rattle.hub_machine.specs.Draws.{draws}
use Rattle.hub_machine.specs.Replies.{Reply, answered}
use Rattle.hub_machine.specs.declared.call.Asked.{Asked}
use Rattle.hub_machine.specs.declared.reply.Outcome.{Outcome}
use Rattle.hub_machine.specs.declared.reply.Outcome.TheVariants as given
use Rattle.hub_machine.specs.declared.work.Work as owed
use Rattle.hub_api.specs.Calls.{call_read}
use Rattle.hub_api.specs.Refusals.{api_refusal, no_draw}
use Rattle.hub_api.specs.declared.refusal.ApiRefusal.{ApiRefusal}
use Rattle.reply_texts.specs.ReplyText.{reply_text, no_memory}
use Rattle.hub_run.specs.Turns.{Turn, visited, worked, declined, undrawn, refused, unsaid, unfinished, wanting, View, Visit, Errand, Visits, Drew, IsDrawn, IsGiven, IsSent, IsUndrawn, IsCounted, Drives, Moves, TurnAt, LeavesNoWork, closes, turn_text, refusal_text}
use Rattle.hub_run.specs.Steps.{Asks, Says, SaysTale, Made, Refuses, StopsAt, TurnEnds}
use Rattle.hub_run.specs.Routed.{lets}
use Rattle.hub_run.specs.Works.{errand_of, path_for}
use Rattle.hub_run.specs.declared.visit.Unanswered.{Unanswered}
use Rattle.hub_run.specs.declared.visit.Unanswered.TheVariants as missed
use Rattle.hub_run.specs.declared.served.TurnEnd.{TurnEnd}
use Rattle.hub_run.specs.declared.served.TurnEnd.TheVariants as end

-- a request is no more than one request
pub within : (request : Request) (text : List ℕ) → IsRequestText request text → WithinRequest text
within request text is =
    inr (
      is.head,
      request.body,
      is.served,
      is.printed,
      subst (λ (due : Result ℕ WireError). AtMostDue due (length request.body)) (sym is.due) (omega arith),
    )

-- no memory, before any visit
pub made_wanting : (start : Start) (x y : View) (request : Request) (text : List ℕ) (last : Bool) (said : List ℕ) (closed : Bool)
    → IsRequestText request text → (y ≡ x) ⊎ IsUndrawn x y → said ≡ no_memory → closed ≡ true → Made start x y text last said closed
made_wanting start x y request text last said closed is moves text_is closed_is =
    (wanting, (λ left rest. (text, within request text is, refl)), moves, closed_is, text_is)

-- no memory for the reply, or for the visit
pub made_unsaid : (start : Start) (x y : View) (request : Request) (text : List ℕ) (asked : Asked) (v : Visit) (last : Bool) (said : List ℕ) (closed : Bool)
    → IsRequestText request text → call_read request ≡ Ok asked → IsDrawn v asked → Visits x v y → LeavesNoWork start request v → said ≡ no_memory → closed ≡ true
    → Made start x y text last said closed
made_unsaid start x y request text asked v last said closed is read drawn visits kept text_is closed_is =
    (unsaid text request v, (λ left rest. (is, record { asked = asked; read = read; drawn = drawn; left = kept }, refl)), visits, closed_is, text_is)

-- where the connection was to be left in this way
as_wished : (r : Reply) (close wished : Bool) (said : List ℕ) (closed : Bool) → close ≡ wished → Says r close said closed → Says r wished said closed
as_wished r close wished said closed is says = subst (λ (c : Bool). Says r c said closed) is says

pub replied : (start : Start) (x y : View) (request : Request) (text : List ℕ) (asked : Asked) (o : Outcome) (v : Visit) (r : Reply) (last : Bool) (said : List ℕ) (closed : Bool)
    → IsRequestText request text → call_read request ≡ Ok asked → outcome_view o ≡ answered r → lets asked.call r ≡ None → IsDrawn v asked → Visits x v y → IsGiven start v asked o
    → Says r (request.close || last) said closed → Made start x y text last said closed
replied start x y request text asked o v r last said closed is read view final drawn visits gave (inl (text_is, closed_is)) = (
  visited text request v r,
  (λ left rest. ((is, record { asked = asked; outcome = o; read = read; drawn = drawn; given = gave; said = view; final = final }), refl)),
  visits,
  closed_is,
  text_is ∙ ap (λ c. reply_text r c) (sym closed_is),
)
replied start x y request text asked o v r last said closed is read view final drawn visits gave (inr (text_is, closed_is)) =
    made_unsaid start x y request text asked v last said closed is read drawn visits
    (inr (r, record { asked = asked; outcome = o; read = read; drawn = drawn; given = gave; said = view; final = final })) text_is closed_is

-- no memory for the visit
pub made_unvisited : (start : Start) (x y : View) (request : Request) (text : List ℕ) (asked : Asked) (u : Unanswered) (last : Bool) (said : List ℕ) (closed : Bool)
    → IsRequestText request text → call_read request ≡ Ok asked → u ≡ missed.Memory → Asks start x y asked (Err u) → said ≡ no_memory → closed ≡ true
    → Made start x y text last said closed
made_unvisited start x y request text asked u last said closed is read u_is asks text_is closed_is =
    let found = subst (λ (w : Unanswered). Asks start x y asked (Err w)) u_is asks in
    made_unsaid start x y request text asked found.0 last said closed is read found.2 found.1 (inl found.3) text_is closed_is

undrawn_by : (start : Start) (x y : View) (request : Request) (text : List ℕ) (asked : Asked) (last : Bool) (said : List ℕ) (closed : Bool)
    → IsRequestText request text → call_read request ≡ Ok asked → draws asked.call ≡ true → IsUndrawn x y → Says no_draw (request.close || last) said closed
    → Made start x y text last said closed
undrawn_by start x y request text asked last said closed is read drawing moves (inl (text_is, closed_is)) = (
  undrawn text request,
  (λ left rest. ((is, record { asked = asked; read = read; draws = drawing }), refl)),
  moves,
  closed_is,
  text_is ∙ ap (λ c. reply_text no_draw c) (sym closed_is),
)
undrawn_by start x y request text asked last said closed is read drawing moves (inr (text_is, closed_is)) =
    made_wanting start x y request text last said closed is (inr moves) text_is closed_is

-- no draw came
pub made_undrawn : (start : Start) (x y : View) (request : Request) (text : List ℕ) (asked : Asked) (u : Unanswered) (close last : Bool) (said : List ℕ) (closed : Bool)
    → IsRequestText request text → call_read request ≡ Ok asked → close ≡ (request.close || last) → u ≡ missed.NoDraw → Asks start x y asked (Err u)
    → Says no_draw close said closed → Made start x y text last said closed
made_undrawn start x y request text asked u close last said closed is read close_is u_is asks says =
    let found = subst (λ (w : Unanswered). Asks start x y asked (Err w)) u_is asks in
    undrawn_by start x y request text asked last said closed is read found.0 found.1
    (as_wished no_draw close (request.close || last) said closed close_is says)

worked_by : (start : Start) (x z y : View) (request : Request) (text : List ℕ) (v : Visit) (e : Errand) (told : Option Tale) (last : Bool) (said : List ℕ) (closed : Bool)
    → IsRequestText request text → IsSent start request v e → e.tale ≡ told → Visits x v z → Drives z e y → SaysTale e.owed told (request.close || last) said closed
    → Made start x y text last said closed
worked_by start x z y request text v e None last said closed is sent tale_is visits drives (text_is, closed_is) =
    (unfinished text request v e, (λ left rest. (is, sent, refl)), (z, visits, drives), closed_is, text_is)
worked_by start x z y request text v e (Some tale) last said closed is sent tale_is visits drives (inl (r, reply, text_is, closed_is)) = (
  worked text request v e r,
  (λ left rest. ((is, record { sent = sent; tale = tale; told = tale_is; reply = reply }), refl)),
  (z, visits, drives),
  closed_is,
  text_is ∙ ap (λ c. reply_text r c) (sym closed_is),
)
worked_by start x z y request text v e (Some tale) last said closed is sent tale_is visits drives (inr (text_is, closed_is)) =
    (unfinished text request v e, (λ left rest. (is, sent, refl)), (z, visits, drives), closed_is, text_is)

-- the work was done by this path, as this chain
abbrev pub IsErrandOf : List ℕ → owed.Work → Option Tale → View → View → Type 0
IsErrandOf path work told z y = (e : Errand) × (e.work ≡ errand_of path work) × (e.owed ≡ work.todo) × (e.tale ≡ told) × Drives z e y

-- the visit gave a work, which was done
pub made_worked : (start : Start) (x z y : View) (request : Request) (text path : List ℕ) (asked : Asked) (o : Outcome) (work : owed.Work) (told : Option Tale)
    (close last : Bool) (said : List ℕ) (closed : Bool)
    → IsRequestText request text → call_read request ≡ Ok asked → close ≡ (request.close || last) → path ≡ path_for asked.call → o ≡ given.Work work
    → Asks start x z asked (Ok o) → IsErrandOf path work told z y → SaysTale work.todo told close said closed → Made start x y text last said closed
made_worked start x z y request text path asked o work told close last said closed is read close_is path_is o_is asks done says =
    worked_by start x z y request text asks.0 done.0 told last said closed is
    (record {
      asked = asked;
      outcome = o;
      read = read;
      drawn = asks.2;
      given = asks.3;
      work = work;
      gives = ap outcome_view o_is;
      first = done.2;
      errand = done.1 ∙ ap (λ (p : List ℕ). errand_of p work) path_is;
    })
    done.3 asks.1 done.4
    (subst (λ (todo : Todo). SaysTale todo told (request.close || last) said closed) (sym done.2)
    (subst (λ (c : Bool). SaysTale work.todo told c said closed) close_is says))

pub made_declined : (start : Start) (x : View) (request : Request) (text : List ℕ) (refusal : ApiRefusal) (last : Bool) (said : List ℕ) (closed : Bool)
    → IsRequestText request text → call_read request ≡ Err refusal → Says (api_refusal refusal) (request.close || last) said closed
    → Made start x x text last said closed
made_declined start x request text refusal last said closed is read (inl (text_is, closed_is)) = (
  declined text request refusal,
  (λ left rest. ((is, read), refl)),
  refl,
  closed_is,
  text_is ∙ ap (λ c. reply_text (api_refusal refusal) c) (sym closed_is),
)
made_declined start x request text refusal last said closed is read (inr (text_is, closed_is)) =
    made_wanting start x x request text last said closed is (inl refl) text_is closed_is

-- bytes that are no request, and what is said to them
pub made_refused : (start : Start) (x : View) (left : Option (List ℕ)) (gone rest : List ℕ) (e : WireError) (last : Bool) (said : List ℕ)
    → WithinRequest gone → RequestRefusedAt left (gone ++ rest) e → Refuses e said
    → (turn : Turn) × TurnAt start left (gone ++ rest) turn rest × Moves x turn x × (true ≡ (closes turn || last)) × (said ≡ turn_text turn true)
made_refused start x left gone rest e last said part at (inl (r, is, text_is)) =
    (refused e, (r, gone, is, part, refl, at), refl, refl, text_is ∙ sym (ap (λ (w : Option Reply). refusal_text w true) is))
made_refused start x left gone rest e last said part at (inr text_is) =
    (wanting, (gone, part, refl), inl refl, refl, text_is)

-- nothing was answered and nothing written
pub stops : (start : Start) (last : Bool) (x y : View) (left held : Option (List ℕ)) (bytes : List ℕ) (e : TurnEnd)
    → StopsAt left bytes e → y ≡ x → TurnEnds start last x y left held held bytes e
stops start last x y left held bytes end.Ended at same = (at, same, refl)
stops start last x y left held bytes end.Cut at same = (at, same, refl)
stops start last x y left held bytes end.ReadFault at same = (at, same, refl)
stops start last x y left held bytes end.WriteFault at same = absurd at

-- ---- a visit

same_start : (base : Option Start) (found start : Start) → base ≡ Some found → base ≡ Some start → found ≡ start
same_start base found start first second = cc

-- the book that a visit found has the base that its pass knows
pub asked_of : {E : Type 0} (start : Start) (x y : View) (asked : Asked) (draw : Option (List ℕ)) (now : ℕ) (b b' : Standing) (r : Result Outcome E)
    → x.pass.base ≡ Some start → is_some draw ≡ draws asked.call → Drew draw x.draws x.faults.random y.draws y.faults.random → Tells x.clock now y.clock
    → (y.spawner ≡ x.spawner) × (y.routes ≡ x.routes) × (y.faults.spawner ≡ x.faults.spawner) × (y.faults.routes ≡ x.faults.routes)
    → Visited entries_of (λ (s : Standing). s.start) (λ s. s.faults) x.pass y.pass b b'
    → VisitedAt b.start (entries_of b) (entries_of b') b.faults b'.faults now draw asked r
    → (v : Visit) × Visits x v y × IsDrawn v asked × VisitedAt start v.before v.after v.faults v.faults_after v.moment v.draw asked r
asked_of start x y asked draw now b b' r base drawn drew told others found gave = (
  record { moment = now; draw = draw; before = entries_of b; after = entries_of b'; faults = b.faults; faults_after = b'.faults },
  record {
    begins = found.begins;
    whole = found.whole;
    appends = found.appends;
    same = found.same;
    seen = found.seen;
    mine = found.mine;
    failed = found.failed;
    known = found.known;
    exact = found.exact;
    grown = found.grown;
    count = found.count;
    told = told;
    drew = drew;
    spawner = others.0;
    routes = others.1;
    others = (others.2, others.3);
  },
  drawn,
  subst (λ (s : Start). VisitedAt s (entries_of b) (entries_of b') b.faults b'.faults now draw asked r) (same_start x.pass.base b.start start found.found_base base) gave,
)

-- ---- a chain

pub counted_so : (device : Device) (told : Option Tale) (m n : ℕ) → m ≤ n → IfSome told (λ tale. tale.failed ≡ Some device → Rises m n) → IsCounted device told m n
counted_so device None m n le cause = le
counted_so device (Some tale) m n le cause = (le, cause)

pub same_pass : (w : Work) (x y : At Entry Start) (first : Todo) (chain : Chain Entry) (told : Option Tale) → ChainEnds LeadsToLives Notes w x first chain told y → IsSamePass x.pass y.pass
same_pass w x y first chain None ends = ends.drove.same
same_pass w x y first chain (Some tale) ends = ends.drove.same
