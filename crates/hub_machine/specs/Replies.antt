-- What is answered, and how a reply says it.
use Rattle.std.specs.Prelude.{ℕ, Bool, false, if◌then◌else◌, List, [], ◌∷◌, ◌++◌, decimal, codes, Option, Some, None}
use Rattle.scope_names.specs.Actions.{text_of}
use Rattle.hub_view.specs.Json.{Json, line, message_body, pairs}
use Rattle.hub_rows.specs.declared.changes.RowChange.{RowChange}
use Rattle.hub_machine.specs.declared.change.Change.{Change}
use Rattle.hub_machine.specs.declared.change.Change.TheVariants.{Rows}
use Rattle.hub_machine.specs.declared.work.Work.{Work}
use Rattle.hub_machine.specs.declared.refusal.Refusal.{Refusal}
use Rattle.hub_machine.specs.declared.refusal.Refusal.TheVariants.{SeenPast, NoValidToken, Needs, NotFound, NotHeld, NeedsUser, Rule, Grant}
use Rattle.hub_machine.specs.declared.refusal.Refusal.TheVariants.{Exists, AllLeased, Full, TrailFull, NoDraw, KeeperFault, SpawnerFault}
use Rattle.hub_machine.specs.declared.refusal.Refusal.TheVariants.{ProxyFault, StoppedWhileStarting}

-- The status of a refusal
abbrev pub status_of : Refusal → ℕ
status_of (SeenPast seen length) = 412
status_of NoValidToken = 403
status_of (Needs action) = 403
status_of NotFound = 404
status_of (NotHeld scope) = 403
status_of NeedsUser = 403
status_of (Rule text) = 400
status_of (Grant word) = 400
status_of (Exists key) = 409
status_of (AllLeased live pool) = 429
status_of (Full kind limit) = 500
status_of TrailFull = 500
status_of NoDraw = 503
status_of KeeperFault = 503
status_of SpawnerFault = 503
status_of ProxyFault = 503
status_of StoppedWhileStarting = 409

-- What is said where the caller has seen a revision past the length of the history
abbrev pub seen_message : (seen length : ℕ) → List ℕ
seen_message seen length = codes "seen " ++ (decimal seen ++ (codes ", revision " ++ decimal length))

-- What is said where all targets are leased
abbrev pub leased_message : (live pool : ℕ) → List ℕ
leased_message live pool = decimal live ++ (codes " of " ++ (decimal pool ++ codes " servers"))

-- What is said where a kind has reached its limit
abbrev pub full_message : (kind limit : ℕ) → List ℕ
full_message kind limit = codes "full: " ++ (decimal kind ++ (codes " " ++ decimal limit))

-- What is said of a refusal
abbrev pub message_of : Refusal → List ℕ
message_of (SeenPast seen length) = seen_message seen length
message_of NoValidToken = codes "no valid token"
message_of (Needs action) = codes "needs " ++ text_of action
message_of NotFound = codes "not found"
message_of (NotHeld scope) = codes "not held: " ++ scope
message_of NeedsUser = codes "needs a user"
message_of (Rule text) = text
message_of (Grant word) = word
message_of (Exists key) = codes "exists: " ++ key
message_of (AllLeased live pool) = leased_message live pool
message_of (Full kind limit) = full_message kind limit
message_of TrailFull = codes "trail full"
message_of NoDraw = codes "random"
message_of KeeperFault = codes "keeper"
message_of SpawnerFault = codes "spawner"
message_of ProxyFault = codes "proxy"
message_of StoppedWhileStarting = codes "stopped while starting"

-- the word of a refusal of the grant
abbrev pub word_of : Refusal → Option (List ℕ)
word_of (Grant word) = Some word
word_of r = None

-- the body of RFC 6749, section 5.2
abbrev pub error_body : (word : List ℕ) → Json
error_body word = pairs ((codes "error", line word) ∷ [])

-- a word has that body, and any other refusal its message and its status
abbrev pub body_with : (word : Option (List ℕ)) → Refusal → Json
body_with (Some word) r = error_body word
body_with None r = message_body (status_of r) (message_of r)

-- The body of a refusal
abbrev pub refusal_body : Refusal → Json
refusal_body r = body_with (word_of r) r

-- the Ok of a call
pub record Good : Type 0 where
  pub status : ℕ
  pub body : Json
  pub location : Option (List ℕ)
  pub no_store : Bool

-- An Ok of this status and this body alone
abbrev pub good : ℕ → Json → Good
good status body = record { status = status; body = body; location = None; no_store = false }

-- What the hub answers to a call: a refusal, or an Ok; with a change, where it has one, and with work, where that is owed
pub data Answer : Type 0 where
  refuses : Refusal → Answer
  -- the one refusal that has a change
  refuses_with : Change → Refusal → Answer
  gives : Good → Answer
  changes : Change → Good → Answer
  works : Change → Work → Answer

-- the Ok of a change of these rows; no rows are no change
abbrev pub rows_then : List RowChange → Good → Answer
rows_then [] g = gives g
rows_then (r ∷ rest) g = changes (Rows (r ∷ rest)) g

-- the first rule that refuses
abbrev pub first_refusal : List (Option Refusal) → Option Refusal
first_refusal [] = None
first_refusal (None ∷ rest) = first_refusal rest
first_refusal (Some r ∷ rest) = Some r

-- The answer, unless there is a refusal
abbrev pub or_refusal : Answer → Option Refusal → Answer
or_refusal answer None = answer
or_refusal answer (Some r) = refuses r

-- what the first rule that refuses answers, or what comes where none does
abbrev pub rules : List (Option Refusal) → Answer → Answer
rules refusals answer = or_refusal answer (first_refusal refusals)

-- The refusal, where the test holds
abbrev pub if_so : Bool → Refusal → Option Refusal
if_so b r = if b then Some r else None

-- ---- replies, with their body as tokens

-- A reply, with its body as tokens
pub record Reply : Type 0 where
  pub status : ℕ
  pub body : Json
  pub location : Option (List ℕ)
  pub no_store : Bool
  pub revision : Option ℕ

-- The reply of a refusal at a revision
abbrev pub refusal_reply : ℕ → Refusal → Reply
refusal_reply revision r =
    record { status = status_of r; body = refusal_body r; location = None; no_store = false; revision = Some revision }

-- The reply of an Ok at a revision
abbrev pub good_reply : ℕ → Good → Reply
good_reply revision g =
    record { status = g.status; body = g.body; location = g.location; no_store = g.no_store; revision = Some revision }

-- What a visit gives: a reply, or work that has to be done before one
pub data Outcome : Type 0 where
  answered : Reply → Outcome
  working : Work → Outcome

-- the outcome of an answer, at the length of the history after its change
abbrev pub outcome_of : ℕ → Answer → Outcome
outcome_of revision (refuses r) = answered (refusal_reply revision r)
outcome_of revision (refuses_with c r) = answered (refusal_reply revision r)
outcome_of revision (gives g) = answered (good_reply revision g)
outcome_of revision (changes c g) = answered (good_reply revision g)
outcome_of revision (works c w) = working w
