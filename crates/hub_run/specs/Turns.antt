-- The turns of a connection: what each reads, what it answers, and what it leaves of the pass and of the devices.
use Rattle.std.specs.Prelude.{◌≡◌, ◌⊎◌, ℕ, ◌+◌, ◌≤◌, Bool, true, ltb, if◌then◌else◌, List, [], ◌∷◌, ◌++◌, Option, Some, None, is_some, Ok}
use Rattle.std.specs.Prelude.{Err}
use mathlib.Core.List.{IsPrefix}
use Rattle.desk.specs.Passes.{IsSamePass}
use Rattle.desk.specs.OwnEntries.{added}
use Rattle.hub_devices.specs.ToCome.{Tells}
use Rattle.hub_devices.specs.Faults.{Rises}
use Rattle.hub_devices.specs.Streams.{Takes}
use Rattle.hub_devices.specs.Calls.{Grows}
use Rattle.http_wire.specs.declared.error.WireError.{WireError}
use Rattle.http_wire.specs.declared.request.Request.{Request}
use Rattle.http_wire.specs.Request.{IsRequestText}
use Rattle.http_wire.specs.Body.{RequestRefusedAt, WithinRequest}
use Rattle.server_life.specs.declared.life.Todo.{Todo}
use Rattle.server_work.specs.declared.work.Work.{Work}
use Rattle.server_work.specs.declared.work.Device.{Device}
use Rattle.server_work.specs.declared.work.Device.TheVariants.{Spawner, Proxy}
use Rattle.server_work.specs.declared.tale.Tale.{Tale}
use Rattle.server_work.specs.Chains.{Chain, ChainEnds, Comes, sight}
use Rattle.hub_machine.specs.Draws.{draws}
use Rattle.hub_machine.specs.Replies.{Reply, answered, working}
use Rattle.hub_machine.specs.Answers.{outcome_view}
use Rattle.hub_machine.specs.declared.work.Work as owed
use Rattle.hub_machine.specs.declared.call.Asked.{Asked}
use Rattle.hub_machine.specs.declared.reply.Outcome.{Outcome}
use Rattle.hub_core.specs.Visits.{Entry, AnsweredAt, FaultedAt}
use Rattle.hub_core.specs.LifeBook.{LeadsToLives, Notes}
pub use Rattle.hub_core.specs.Views.{Faults, View, view_of, at_chain}
use Rattle.hub_core.specs.declared.start.Start.{Start}
use Rattle.hub_api.specs.Calls.{call_read}
use Rattle.hub_api.specs.Refusals.{api_refusal, no_draw, wire_refusal}
use Rattle.hub_api.specs.declared.refusal.ApiRefusal.{ApiRefusal}
use Rattle.reply_texts.specs.ReplyText.{reply_text, no_memory}
use Rattle.hub_run.specs.Routed.{Asking, IsAskingOf, IsPlanned, IsSaidOf, has_failed, lets, told_of}
use Rattle.hub_run.specs.Works.{errand_of, path_for, tale_reply}
use Rattle.hub_run.specs.declared.routed.Way.{Way}

-- a visit: its moment and its draw, the entries that it found and those that it left, and the keeper's counts of faults before and after it
pub record Visit : Type 0 where
  pub moment : ℕ
  pub draw : Option (List ℕ)
  pub before : List Entry
  pub after : List Entry
  pub faults : ℕ
  pub faults_after : ℕ

-- what a visit gave to be done: the call that is owed first, and the chain of calls from there, with what is told of it, unless it broke
pub record Errand : Type 0 where
  pub work : Work
  pub owed : Todo
  pub chain : Chain Entry
  pub tale : Option Tale

-- one request, or one refusal of the wire, with its reply
pub data Turn : Type 0 where
  -- a request with its bytes whose call was answered by a visit, and the reply
  visited : List ℕ → Request → Visit → Reply → Turn
  -- a request with its bytes whose call owed work, which was done, and the reply
  worked : List ℕ → Request → Visit → Errand → Reply → Turn
  -- a request with its bytes whose call the visit let ask the route link, which was asked, and the reply
  routed : List ℕ → Request → Visit → Asking → Reply → Turn
  -- a request with its bytes that asks no call
  declined : List ℕ → Request → ApiRefusal → Turn
  -- a request with its bytes whose call draws, for which no draw came
  undrawn : List ℕ → Request → Turn
  -- bytes that are no request
  refused : WireError → Turn
  -- a request with its bytes whose call was visited, without memory for the reply that the visit gave, or for the visit itself
  unsaid : List ℕ → Request → Visit → Turn
  -- a request with its bytes whose call owed work, which broke, or whose end found no memory to be kept, or without memory for the reply
  unfinished : List ℕ → Request → Visit → Errand → Turn
  -- a request with its bytes whose call the visit let ask the route link, without memory for the list, for what follows of it, or for the
  -- reply
  unrouted : List ℕ → Request → Visit → Asking → Turn
  -- no memory before any visit; a draw may have failed
  wanting : Turn

-- ---- what is written

-- What is written for bytes that are no request: the reply of their refusal, if it has one (`wire_refusal`), and else nothing. `close` says
-- whether it has a `Connection: close`
abbrev pub refusal_text : Option Reply → Bool → List ℕ
refusal_text None close = []
refusal_text (Some r) close = reply_text r close

-- The bytes of the one reply of a turn. `close` says whether it has a `Connection: close`; a 507 for want of memory has it always
abbrev pub turn_text : Turn → Bool → List ℕ
turn_text (visited text q v r) close = reply_text r close
turn_text (worked text q v e r) close = reply_text r close
turn_text (routed text q v a r) close = reply_text r close
turn_text (declined text q e) close = reply_text (api_refusal e) close
turn_text (undrawn text q) close = reply_text no_draw close
turn_text (refused e) close = refusal_text (wire_refusal e) close
turn_text (unsaid text q v) close = no_memory
turn_text (unfinished text q v e) close = no_memory
turn_text (unrouted text q v a) close = no_memory
turn_text wanting close = no_memory

-- The turn closes the connection wherever it stands in it: its request asks for that, its bytes are no request, or its reply is a 507 for
-- want of memory
abbrev pub closes : Turn → Bool
closes (visited text q v r) = q.close
closes (worked text q v e r) = q.close
closes (routed text q v a r) = q.close
closes (declined text q e) = q.close
closes (undrawn text q) = q.close
closes (refused e) = true
closes (unsaid text q v) = true
closes (unfinished text q v e) = true
closes (unrouted text q v a) = true
closes wanting = true

-- ---- what is read

-- a call that draws is visited with a draw, and another one without
abbrev pub IsDrawn : Visit → Asked → Type 0
IsDrawn v asked = is_some v.draw ≡ draws asked.call

-- The visit gave the outcome `o` to the call that was asked: what the state that the entries before it left answers, or a 503 where the
-- keeper refused the rows of an answer that has some, and its count of faults rose
abbrev pub IsGiven : Start → Visit → Asked → Outcome → Type 0
IsGiven start v asked o =
    AnsweredAt start v.before v.after v.moment v.draw asked o ⊎ FaultedAt start v.before v.after v.faults v.faults_after v.moment v.draw
    asked o

-- the reply says what the visit gave to the call of the request, which doesn't go on to the route link
pub record IsAnswered (start : Start) (q : Request) (v : Visit) (r : Reply) : Type 0 where
  pub asked : Asked
  pub outcome : Outcome
  pub read : call_read q ≡ Ok asked
  pub drawn : IsDrawn v asked
  pub given : IsGiven start v asked outcome
  pub said : outcome_view outcome ≡ answered r
  pub final : lets asked.call r ≡ None

-- the visit gave this work to the call of the request, and the errand is that work by the path of the server that the call names
pub record IsSent (start : Start) (q : Request) (v : Visit) (e : Errand) : Type 0 where
  pub asked : Asked
  pub outcome : Outcome
  pub read : call_read q ≡ Ok asked
  pub drawn : IsDrawn v asked
  pub given : IsGiven start v asked outcome
  pub work : owed.Work
  pub gives : outcome_view outcome ≡ working work
  pub first : e.owed ≡ work.todo
  pub errand : e.work ≡ errand_of (path_for asked.call) work

-- and the reply is that of what is told of its chain
pub record IsWorked (start : Start) (q : Request) (v : Visit) (e : Errand) (r : Reply) : Type 0 where
  pub sent : IsSent start q v e
  pub tale : Tale
  pub told : e.tale ≡ Some tale
  pub reply : tale_reply e.owed tale ≡ Some r

-- the visit let the call of the request ask the route link, which was asked so
pub record IsLet (start : Start) (q : Request) (v : Visit) (a : Asking) : Type 0 where
  pub asked : Asked
  pub outcome : Outcome
  pub read : call_read q ≡ Ok asked
  pub drawn : IsDrawn v asked
  pub given : IsGiven start v asked outcome
  pub gave : Reply
  pub said : outcome_view outcome ≡ answered gave
  pub way : Way
  pub goes : lets asked.call gave ≡ Some way
  pub asks : IsAskingOf way a

-- and the reply is that of what came
pub record IsRouted (start : Start) (q : Request) (v : Visit) (a : Asking) (r : Reply) : Type 0 where
  pub let_by : IsLet start q v a
  pub reply : IsSaidOf let_by.gave a r

-- The entries that it left are those that it found, or it gave a reply, with nothing to be done or asked for it
abbrev pub LeavesNoWork : Start → Request → Visit → Type 0
LeavesNoWork start q v = (v.after ≡ v.before) ⊎ ((r : Reply) × IsAnswered start q v r)

-- the visit was for the call of the request
pub record IsUnsaid (start : Start) (q : Request) (v : Visit) : Type 0 where
  pub asked : Asked
  pub read : call_read q ≡ Ok asked
  pub drawn : IsDrawn v asked
  pub left : LeavesNoWork start q v

-- the call of the request draws
pub record Draws (q : Request) : Type 0 where
  pub asked : Asked
  pub read : call_read q ≡ Ok asked
  pub draws : draws asked.call ≡ true

-- the bytes of a turn's request
abbrev pub request_bytes : Turn → List ℕ
request_bytes (visited text q v r) = text
request_bytes (worked text q v e r) = text
request_bytes (routed text q v a r) = text
request_bytes (declined text q e) = text
request_bytes (undrawn text q) = text
request_bytes (refused e) = []
request_bytes (unsaid text q v) = text
request_bytes (unfinished text q v e) = text
request_bytes (unrouted text q v a) = text
request_bytes wanting = []

-- a request, with the reply that it has to get
abbrev pub IsRight : Start → Turn → Type 0
IsRight start (visited text q v r) = IsRequestText q text × IsAnswered start q v r
IsRight start (worked text q v e r) = IsRequestText q text × IsWorked start q v e r
IsRight start (routed text q v a r) = IsRequestText q text × IsRouted start q v a r
IsRight start (declined text q e) = IsRequestText q text × (call_read q ≡ Err e)
IsRight start (undrawn text q) = IsRequestText q text × Draws q
IsRight start (refused e) = ⊥
IsRight start (unsaid text q v) = ⊥
IsRight start (unfinished text q v e) = ⊥
IsRight start (unrouted text q v a) = ⊥
IsRight start wanting = ⊥

-- The turn stands at the front of `bytes`, the rest is what stands behind it, and it is the right one for these bytes in a book that began
-- with `start`. `left` is what the source has still to give behind `bytes`, as far as it tells that. A 507 takes no more than one request
abbrev pub TurnAt : Start → Option (List ℕ) → List ℕ → Turn → List ℕ → Type 0
TurnAt start left bytes (visited text q v r) rest = IsRight start (visited text q v r) × (bytes ≡ text ++ rest)
TurnAt start left bytes (worked text q v e r) rest = IsRight start (worked text q v e r) × (bytes ≡ text ++ rest)
TurnAt start left bytes (routed text q v a r) rest = IsRight start (routed text q v a r) × (bytes ≡ text ++ rest)
TurnAt start left bytes (declined text q e) rest = IsRight start (declined text q e) × (bytes ≡ text ++ rest)
TurnAt start left bytes (undrawn text q) rest = IsRight start (undrawn text q) × (bytes ≡ text ++ rest)
TurnAt start left bytes (refused e) rest =
    (r : Reply) × (gone : List ℕ) × (wire_refusal e ≡ Some r) × WithinRequest gone × (bytes ≡ gone ++ rest) × RequestRefusedAt left bytes e
TurnAt start left bytes (unsaid text q v) rest = IsRequestText q text × IsUnsaid start q v × (bytes ≡ text ++ rest)
TurnAt start left bytes (unfinished text q v e) rest = IsRequestText q text × IsSent start q v e × (bytes ≡ text ++ rest)
TurnAt start left bytes (unrouted text q v a) rest = IsRequestText q text × IsLet start q v a × (bytes ≡ text ++ rest)
TurnAt start left bytes wanting rest = (gone : List ℕ) × WithinRequest gone × (bytes ≡ gone ++ rest)

-- ---- what it leaves

-- If there is a draw, it was the first of those that were to come (`left`), and the others are to come still (`left'`); else none was
-- taken. `faults` counts how often the source of draws has failed; with a prime: after
abbrev pub Drew : Option (List ℕ) → Option (List (List ℕ)) → ℕ → Option (List (List ℕ)) → ℕ → Type 0
Drew None left faults left' faults' = (left' ≡ left) × (faults' ≡ faults)
Drew (Some draw) left faults left' faults' = Takes left (draw ∷ []) left' × (faults ≤ faults')

-- a visit by the pass of x: it stands after all that the pass had seen, and exactly there where nobody else is; so does the keeper's count
-- of faults. The pass counts it among those that met a failing keeper exactly where that count rose in it. The spawner and the route link
-- aren't called
pub record Visits (x : View) (v : Visit) (y : View) : Type 0 where
  pub begins : IsPrefix x.pass.seen v.before
  pub whole : x.pass.alone ≡ true → v.before ≡ x.pass.seen
  pub appends : IsPrefix v.before v.after
  pub same : IsSamePass x.pass y.pass
  pub seen : y.pass.seen ≡ v.after
  pub mine : y.pass.mine ≡ x.pass.mine ++ added v.before v.after
  pub failed : y.pass.failed ≡ x.pass.failed + (if ltb v.faults v.faults_after then 1 else 0)
  pub known : x.pass.faults ≤ v.faults
  pub exact : x.pass.alone ≡ true → v.faults ≡ x.pass.faults
  pub grown : v.faults ≤ v.faults_after
  pub count : y.pass.faults ≡ v.faults_after
  pub told : Tells x.clock v.moment y.clock
  pub drew : Drew v.draw x.draws x.faults.random y.draws y.faults.random
  pub spawner : y.spawner ≡ x.spawner
  pub routes : y.routes ≡ x.routes
  pub others : (y.faults.spawner ≡ x.faults.spawner) × (y.faults.routes ≡ x.faults.routes)

-- The count of faults of a device, before and after a chain of which this tale is told, if any: it doesn't fall, and it rose where a call
-- of this device was the first of the chain to fail
abbrev pub IsCounted : Device → Option Tale → ℕ → ℕ → Type 0
IsCounted device None before after = before ≤ after
IsCounted device (Some tale) before after = (before ≤ after) × (tale.failed ≡ Some device → Rises before after)

-- From the view x on the chain of the errand was made, up to the view y. It draws nothing and asks no moment
pub record Drives (x : View) (e : Errand) (y : View) : Type 0 where
  pub chain : ChainEnds LeadsToLives Notes e.work (at_chain x) e.owed e.chain e.tale (at_chain y)
  pub clock : y.clock ≡ x.clock
  pub draws : y.draws ≡ x.draws
  pub random : y.faults.random ≡ x.faults.random
  pub spawner : IsCounted Spawner e.tale x.faults.spawner y.faults.spawner
  pub routes : IsCounted Proxy e.tale x.faults.routes y.faults.routes

-- From the view x on the visit v was made, and then, from what it left on, the chain of the errand e that it gave; y is what is known
-- behind both
abbrev pub Works : View → Visit → Errand → View → Type 0
Works x v e y = (z : View) × Visits x v z × Drives z e y

-- From the view x on the route link was asked, and y is what is known then. There is no entry, and no other device is asked
pub record AsksLink (x : View) (a : Asking) (y : View) : Type 0 where
  pub same : IsSamePass x.pass y.pass
  pub mine : y.pass.mine ≡ x.pass.mine
  pub failed : y.pass.failed ≡ x.pass.failed
  pub comes : Comes x.pass.alone (sight x.pass) (sight y.pass)
  pub planned : (start : Start) → x.pass.base ≡ Some start → IsPlanned start y.pass.seen a
  pub clock : y.clock ≡ x.clock
  pub draws : y.draws ≡ x.draws
  pub spawner : y.spawner ≡ x.spawner
  pub routes : Grows x.routes (told_of a) y.routes
  pub others : (y.faults.random ≡ x.faults.random) × (y.faults.spawner ≡ x.faults.spawner)
  pub counted : x.faults.routes ≤ y.faults.routes
  pub cause : has_failed a ≡ true → Rises x.faults.routes y.faults.routes

-- From the view x on the visit v was made, and then, from what it left on, the route link was asked as `a` says; y is what is known behind
-- both
abbrev pub Routes : View → Visit → Asking → View → Type 0
Routes x v a y = (z : View) × Visits x v z × AsksLink z a y

-- From the view x to the view y no draw came: the source's count of faults rose, and all else is as before
pub record IsUndrawn (x y : View) : Type 0 where
  pub pass : y.pass ≡ x.pass
  pub clock : y.clock ≡ x.clock
  pub draws : y.draws ≡ x.draws
  pub spawner : y.spawner ≡ x.spawner
  pub routes : y.routes ≡ x.routes
  pub failed : Rises x.faults.random y.faults.random
  pub others : (y.faults.spawner ≡ x.faults.spawner) × (y.faults.routes ≡ x.faults.routes)

-- What is known before the turn is x, and behind it y: its visit lies between them, and the chain or the asking of the route link that
-- followed, where it has these. A turn without a visit changes nothing, but that a draw may have failed
abbrev pub Moves : View → Turn → View → Type 0
Moves x (visited text q v r) y = Visits x v y
Moves x (worked text q v e r) y = Works x v e y
Moves x (routed text q v a r) y = Routes x v a y
Moves x (declined text q e) y = y ≡ x
Moves x (undrawn text q) y = IsUndrawn x y
Moves x (refused e) y = y ≡ x
Moves x (unsaid text q v) y = Visits x v y
Moves x (unfinished text q v e) y = Works x v e y
Moves x (unrouted text q v a) y = Routes x v a y
Moves x wanting y = (y ≡ x) ⊎ IsUndrawn x y

-- These turns were made one after the other, each from the view that the one before it left, the first from x on, and the last left y
abbrev pub Turns : View → List Turn → View → Type 0
Turns x [] y = y ≡ x
Turns x (t ∷ ts) y = (z : View) × Moves x t z × Turns z ts y
