-- Whether a token may enter a server, and at which place of the history that is decided.
use Rattle.std.specs.Prelude.{◌≡◌, ◌↔◌, ◌⊎◌, ◌<◌, ◌+◌, ℕ, Bool, true, false, IsTrue, List, length, Some, None}
use Rattle.std.specs.FinMap.{get}
use Rattle.std.specs.Str.{is_utf8}
use mathlib.Core.List.{IsPrefix}
use Rattle.guard.specs.declared.access.Access.{Access}
use Rattle.guard.specs.declared.access.Access.TheVariants.{Yes, No, NoToken, BadReply}
use Rattle.hub_calls.specs.UserCalls.{identity}
use Rattle.hub_core.specs.Answer.{good_token}
use Rattle.hub_core.specs.Visits.{Entry, Reached}
use Rattle.hub_core.specs.declared.start.Start.{Start}
use Rattle.hub_devices.specs.ToCome.{Tells}
use Rattle.hub_kit.specs.declared.names.ServerKey.{ServerKey}
use Rattle.hub_machine.specs.State.{Hub}
use Rattle.hub_rows.specs.declared.records.Token.{Token}
use Rattle.hub_run.specs.Turns.{View}
use Rattle.hub_view.specs.Fields.{Rights}
use Rattle.json.specs.Print.{print}
use Rattle.roles.specs.Rights.{IsAllowed}
use Rattle.scope_filters.specs.declared.holder.Owner.{Owner}
use Rattle.scope_filters.specs.declared.holder.Owner.TheVariants as Own
use Rattle.scope_filters.specs.declared.object.Object.{Object}
use Rattle.scope_filters.specs.declared.object.Object.TheVariants as Ob
use Rattle.scope_names.specs.declared.action.Action.{Action}
use Rattle.scope_names.specs.declared.action.Action.TheVariants.{AccessServers}

-- the text is that of a token that is good at the moment, and it may enter the server
pub record Enters (s : Hub) (now : ℕ) (token : List ℕ) (server : ServerKey) : Type 0 where
  pub holder : Token
  pub good : good_token s.tables now (Some token) ≡ Some holder
  pub allowed : IsAllowed s.tables holder AccessServers (Ob.Server server)

-- at a place at or past all that the pass of x had seen, and within what that of y has seen, and at the moment that the clock gave
pub record HoldsAt (start : Start) (x y : View) (P : Hub → ℕ → Type 0) : Type 0 where
  pub before : List Entry
  pub begins : IsPrefix x.pass.seen before
  pub whole : x.pass.alone ≡ true → before ≡ x.pass.seen
  pub within : IsPrefix before y.pass.seen
  pub now : ℕ
  pub told : Tells x.clock now y.clock
  pub state : Hub
  pub reached : Reached start before state
  pub holds : P state now

-- a token was let in exactly where it may enter the server
abbrev pub Admits : List ℕ → ServerKey → Bool → Hub → ℕ → Type 0
Admits token server admitted s now = IsTrue admitted ↔ Enters s now token server

-- the names and the token make the ask longer than a head that a hub reads
abbrev pub IsTooLong : List ℕ → ServerKey → Type 0
IsTooLong token server = 16295 < length server.user + length server.server + length token

-- the owner is a user who isn't there
abbrev pub IsGone : Hub → Owner → Type 0
IsGone s (Own.User u) = get s.tables.users u ≡ None
IsGone s (Own.Service v) = ⊥

-- the token is good, but what the hub shows of its owner tells a guard nothing: there is no such user, or it isn't UTF-8
pub record IsMute (token : List ℕ) (server : ServerKey) (s : Hub) (now : ℕ) : Type 0 where
  pub holder : Token
  pub good : good_token s.tables now (Some token) ≡ Some holder
  pub rights : Rights
  pub exact : (a : Action) (x : Object) → IsTrue (rights a x) ↔ IsAllowed s.tables holder a x
  pub none : IsGone s holder.owner ⊎ (is_utf8 (print (identity rights s holder (Some server) holder.owner)) ≡ false)

-- the hub's answer tells nothing of the token
abbrev pub Undecided : Start → View → View → List ℕ → ServerKey → Type 0
Undecided start x y token server = IsTooLong token server ⊎ HoldsAt start x y (IsMute token server)

-- what the hub's answer to an ask for access tells of the token
abbrev pub Judges : Start → View → View → List ℕ → ServerKey → Access → Type 0
Judges start x y token server Yes = HoldsAt start x y (Admits token server true)
Judges start x y token server No = HoldsAt start x y (Admits token server false)
Judges start x y token server NoToken = HoldsAt start x y (Admits token server false)
Judges start x y token server BadReply = Undecided start x y token server
