-- What the parts of a turn say and leave.
use Rattle.std.specs.Prelude.{◌≡◌, ◌≤◌, ◌⊎◌, ◌||◌, ◌++◌, ℕ, Bool, true, List, length, Option, Some, None, Result, Ok, Err}
use Rattle.hub_devices.specs.Streams.{Appends}
use Rattle.http_wire.specs.Body.{RequestRefusedAt}
use Rattle.http_wire.specs.Wire.{head_limit}
use Rattle.http_wire.specs.declared.error.WireError.{WireError}
use Rattle.http_wire.specs.declared.error.WireError.TheVariants as wire
use Rattle.hub_core.specs.declared.start.Start.{Start}
use Rattle.hub_machine.specs.Replies as spec
use Rattle.hub_machine.specs.Draws.{draws}
use Rattle.hub_machine.specs.declared.call.Asked.{Asked}
use Rattle.server_life.specs.declared.life.Todo.{Todo}
use Rattle.server_work.specs.declared.tale.Tale.{Tale}
use Rattle.hub_run.specs.Works.{tale_reply}
use Rattle.hub_machine.specs.declared.reply.Outcome.{Outcome}
use Rattle.hub_api.specs.Refusals.{wire_refusal}
use Rattle.reply_texts.specs.ReplyText.{reply_text, no_memory}
use Rattle.hub_machine.specs.Answers.{reply_view}
use Rattle.hub_machine.specs.declared.reply.Reply as replies
use Rattle.hub_run.specs.Routed.{Asking, IsAskingOf, IsSaidOf}
use Rattle.hub_run.specs.declared.routed.Way.{Way}
use Rattle.hub_run.specs.Turns.{AsksLink, Turn, View, Visit, Visits, IsDrawn, IsGiven, IsUndrawn, Moves, TurnAt, turn_text, closes}
use Rattle.hub_run.specs.declared.visit.Unanswered.{Unanswered}
use Rattle.hub_run.specs.declared.visit.Unanswered.TheVariants as missed
use Rattle.hub_run.specs.declared.served.TurnEnd.{TurnEnd}
use Rattle.hub_run.specs.declared.served.TurnEnd.TheVariants as end

-- The text is the reply's, and the connection is closed or not (`closed`), as was wished (`close`); or it is a 507, which closes it
abbrev pub Says : spec.Reply → Bool → List ℕ → Bool → Type 0
Says r close text closed = ((text ≡ reply_text r close) × (closed ≡ close)) ⊎ ((text ≡ no_memory) × (closed ≡ true))

-- The reply of what came of the route link is said, or there is a 507, which closes the connection. r is the reply of the visit that let it
-- be asked, `close` whether the connection is to be closed, and `closed` whether it is
abbrev pub SaysAsked : spec.Reply → Asking → Bool → List ℕ → Bool → Type 0
SaysAsked r a close text closed =
    ((q : spec.Reply) × IsSaidOf r a q × (text ≡ reply_text q close) × (closed ≡ close)) ⊎ ((text ≡ no_memory) × (closed ≡ true))

-- The reply r of a visit is said where the call doesn't go on; where it goes this way, the route link is asked from the view x on, up to
-- the view y, and what came is said
abbrev pub GoesOn : View → View → Option Way → spec.Reply → Bool → List ℕ → Bool → Type 0
GoesOn x y None r close text closed = (y ≡ x) × Says r close text closed
GoesOn x y (Some way) r close text closed = (a : Asking) × IsAskingOf way a × AsksLink x a y × SaysAsked r a close text closed

-- What was made is said as a reply, or there is a 507, which closes the connection
abbrev pub SaysMade : {E : Type 0} → Result replies.Reply E → Bool → List ℕ → Bool → Type 0
SaysMade (Ok r) close text closed = Says (reply_view r) close text closed
SaysMade (Err e) close text closed = (text ≡ no_memory) × (closed ≡ true)

-- The reply of a chain that began with the call owed, of which this tale is told, is said, or there is a 507, which closes the connection
abbrev pub SaysTale : Todo → Option Tale → Bool → List ℕ → Bool → Type 0
SaysTale owed None close text closed = (text ≡ no_memory) × (closed ≡ true)
SaysTale owed (Some tale) close text closed =
    ((r : spec.Reply) × (tale_reply owed tale ≡ Some r) × (text ≡ reply_text r close) × (closed ≡ close))
    ⊎ ((text ≡ no_memory) × (closed ≡ true))

-- A turn answers the request of this text, and moves the view from x to y; what is said is its reply, and the connection is closed where
-- the turn closes it, or where it is the last
abbrev pub Made : Start → View → View → List ℕ → Bool → List ℕ → Bool → Type 0
Made start x y text last said closed =
    (turn : Turn) × ((left : Option (List ℕ)) (rest : List ℕ) → TurnAt start left (text ++ rest) turn rest)
    × Moves x turn y × (closed ≡ (closes turn || last)) × (said ≡ turn_text turn closed)

-- What a call was answered by a visit from the view x on, which left y; or why it wasn't answered
abbrev pub Asks : Start → View → View → Asked → Result Outcome Unanswered → Type 0
Asks start x y asked (Ok o) = (v : Visit) × Visits x v y × IsDrawn v asked × IsGiven start v asked o
Asks start x y asked (Err missed.Memory) = (v : Visit) × Visits x v y × IsDrawn v asked × (v.after ≡ v.before)
Asks start x y asked (Err missed.NoDraw) = (draws asked.call ≡ true) × IsUndrawn x y

-- The text that is written for this error of the wire: the reply of its refusal, or a 507
abbrev pub Refuses : WireError → List ℕ → Type 0
Refuses error text = ((r : spec.Reply) × (wire_refusal error ≡ Some r) × (text ≡ reply_text r true)) ⊎ (text ≡ no_memory)

-- Where these bytes stand in place of a request, and `left` is what the source has still to give: they are none, for this reason, and no
-- reply is due
abbrev pub StopsAt : Option (List ℕ) → List ℕ → TurnEnd → Type 0
StopsAt left bytes end.Ended = RequestRefusedAt left bytes wire.Ended
StopsAt left bytes end.Cut = RequestRefusedAt left bytes wire.Cut
StopsAt left bytes end.ReadFault = RequestRefusedAt left bytes wire.ReadFault
StopsAt left bytes end.WriteFault = ⊥

-- a turn whose reply was written in part, and which would have closed the connection where `last` says so
pub record IsBroken (start : Start) (last : Bool) (x y : View) (left held held' : Option (List ℕ)) (bytes : List ℕ) : Type 0 where
  pub turn : Turn
  pub rest : List ℕ
  pub part : List ℕ
  pub more : List ℕ
  pub at : TurnAt start left bytes turn rest
  pub kept : length rest ≤ head_limit
  pub moves : Moves x turn y
  pub text : turn_text turn (closes turn || last) ≡ part ++ more
  pub wrote : Appends held part held'

-- How a turn ended without a whole reply. Before it the view was x, `bytes` stood in front, `left` was still to come, and the sink held
-- `held`; y and `held'` are what was found then
abbrev pub TurnEnds : Start → Bool → View → View → Option (List ℕ) → Option (List ℕ) → Option (List ℕ) → List ℕ → TurnEnd → Type 0
TurnEnds start last x y left held held' bytes end.Ended = RequestRefusedAt left bytes wire.Ended × (y ≡ x) × (held' ≡ held)
TurnEnds start last x y left held held' bytes end.Cut = RequestRefusedAt left bytes wire.Cut × (y ≡ x) × (held' ≡ held)
TurnEnds start last x y left held held' bytes end.ReadFault = RequestRefusedAt left bytes wire.ReadFault × (y ≡ x) × (held' ≡ held)
TurnEnds start last x y left held held' bytes end.WriteFault = IsBroken start last x y left held held' bytes
