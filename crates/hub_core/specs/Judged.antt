-- What an answer takes for granted: the rights of the caller, over all scopes and objects.
use Rattle.std.specs.Prelude.{◌≡◌, ℕ, Bool, ◌↔◌, IsTrue, List, Option, Some, None, if◌then◌else◌}
use Rattle.scope_names.specs.declared.action.Action.{Action}
use Rattle.scope_filters.specs.declared.object.Object.{Object}
use Rattle.scope_filters.specs.Contexts.{Context}
use Rattle.scope_filters.specs.Grants as grants
use Rattle.scope_filters.specs.declared.holder.Owner.TheVariants as Own
use Rattle.scope_meet.specs.Named.{AdmitsSomething}
use Rattle.scope_meet.specs.declared.inside.Inside.{Inside}
use Rattle.scope_meet.specs.declared.inside.Inside.TheVariants.{Yes}
use Rattle.hub_rows.specs.declared.records.Token.{Token}
use Rattle.hub_tables.specs.State.{State}
use Rattle.roles.specs.Rights.{IsAllowed, IsGrantOf, Holds, OwnerMay}
use Rattle.token_store.specs.Issuing.{AreWithin}
use Rattle.token_store.specs.declared.issuing.TokenAsk.{TokenAsk}
use Rattle.hub_machine.specs.State.{Hub}
use Rattle.hub_core.specs.Needs.{needs, needs_token}
use Rattle.hub_core.specs.Answer.{Judgement, caller, is_past, by_token}
use Rattle.hub_machine.specs.Trails.{in_trail}
use Rattle.hub_machine.specs.Replies.{Answer}
use Rattle.hub_core.specs.declared.need.Need.{Need}
use Rattle.hub_core.specs.declared.need.Need.TheVariants.{GoodToken, Held, On}
use Rattle.hub_machine.specs.declared.call.Asked.{Asked}
use Rattle.hub_machine.specs.declared.call.Call.{Call}
use Rattle.hub_machine.specs.declared.call.Call.TheVariants.{PostToken}

-- the token may do what is needed on some object at all
abbrev pub HeldOf : State → Token → Bool → Need → Type 0
HeldOf t k is_held GoodToken = Unit {0}
HeldOf t k is_held (Held a) = IsTrue is_held ↔ Holds t k a
HeldOf t k is_held (On a x) = IsTrue is_held ↔ Holds t k a

-- whether the owner of a token may do all that is asked for it, by a grant of exactly what the owner may do
pub record IsHeldBy (t : State) (ask : TokenAsk) (inside : Inside) : Type 0 where
  pub rights : grants.Rights
  pub exact : IsGrantOf t (OwnerMay t (Own.User ask.owner)) rights
  pub within : AreWithin t rights (Own.User ask.owner) ask.scopes inside

-- a call that makes no token asks for nothing
abbrev pub InsideOf : State → Call → Inside → Type 0
InsideOf t (PostToken ask) inside = IsHeldBy t ask inside
InsideOf t call inside = inside ≡ Yes

-- the judgement is that of the token's owner and scopes, and of the owner of a token that is asked for
pub record JudgesToken (t : State) (k : Token) (call : Call) (j : Judgement) : Type 0 where
  pub may : (a : Action) (x : Object) → IsTrue (j.may a x) ↔ IsAllowed t k a x
  pub held : HeldOf t k j.is_held (needs call)
  pub inside : InsideOf t call j.inside

-- The judgement is that of this token, if there is one whose rights decide; where there is none, nothing is said of it
abbrev pub JudgesCaller : State → Call → Judgement → Option Token → Type 0
JudgesCaller t call j None = Unit {0}
JudgesCaller t call j (Some k) = JudgesToken t k call j

-- the token whose rights decide: none where the call needs no token, or is refused before
abbrev token_for : Call → Option Token → Option Token
token_for call k = if needs_token call then k else None

-- The token whose rights decide what is answered to a call at the moment `now`, if one does
abbrev pub decider : Hub → ℕ → Asked → Option Token
decider s now asked = if is_past s.length asked.seen then None else token_for asked.call (caller s now asked)

-- the judgement is that of the token whose rights decide
abbrev pub Judged : Hub → ℕ → Asked → Judgement → Type 0
Judged s now asked j = JudgesCaller s.tables asked.call j (decider s now asked)

-- a grant has an action that is needed on some object at all, whoever is in which group
abbrev pub HasHeld : grants.Rights → Bool → Need → Type 0
HasHeld grant is_held GoodToken = Unit {0}
HasHeld grant is_held (Held a) = (m : Context) → IsTrue is_held ↔ AdmitsSomething m grant a
HasHeld grant is_held (On a x) = (m : Context) → IsTrue is_held ↔ AdmitsSomething m grant a

-- the answer to a call that brings a good token
pub record ByRights (s : Hub) (now : ℕ) (draw : Option (List ℕ)) (k : Token) (call : Call) (r : Answer) : Type 0 where
  pub judgement : Judgement
  pub judged : JudgesToken s.tables k call judgement
  pub is : r ≡ in_trail s (by_token s judgement now draw call (Some k))
