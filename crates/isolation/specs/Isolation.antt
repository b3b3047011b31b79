-- Isolation: a reply depends on nothing but what its token may see.
use Rattle.std.specs.Prelude.{◌≡◌, ℕ, Bool, true, false, List, Option, Some, None}
use Rattle.hub_kit.specs.Hashes.{hash_text}
use Rattle.hub_rows.specs.declared.records.Token.{Token}
use Rattle.hub_tables.specs.Hashes.{row_with}
use Rattle.hub_tables.specs.Own.{AreOwn}
use Rattle.hub_tables.specs.State.{State}
use Rattle.hub_machine.specs.State.{Hub}
use Rattle.hub_machine.specs.Replies.{Outcome, answered, working}
use Rattle.hub_machine.specs.declared.call.Asked.{Asked}
use Rattle.hub_machine.specs.declared.call.Call.{Call}
use Rattle.hub_machine.specs.declared.call.Call.TheVariants.{GetVersion, GetInfo, GetIdentity, GetUsers, GetUser, GetTokens, GetToken}
use Rattle.hub_machine.specs.declared.call.Call.TheVariants.{GetShares, GetCodes, GetGroups, GetGroup, GetServices, GetService, GetRoles}
use Rattle.hub_machine.specs.declared.call.Call.TheVariants.{GetRole}
use Rattle.hub_core.specs.Answer.{is_past}

-- the calls whose method is GET, but for an authorization, which makes a code, and for the routes of the proxy, which come from outside
abbrev pub is_get : Call → Bool
is_get GetVersion = true
is_get GetInfo = true
is_get (GetIdentity server) = true
is_get (GetUsers page) = true
is_get (GetUser user) = true
is_get (GetTokens user) = true
is_get (GetToken user id) = true
is_get (GetShares whose page) = true
is_get (GetCodes whose page) = true
is_get (GetGroups page) = true
is_get (GetGroup group) = true
is_get (GetServices page) = true
is_get (GetService service) = true
is_get (GetRoles page) = true
is_get (GetRole role) = true
is_get _ = false

-- The kept token that has the hash of the text, good or over
abbrev pub token_of : State → Option (List ℕ) → Option Token
token_of t None = None
token_of t (Some text) = row_with (λ k. k.hash) (hash_text text) t.tokens

-- A state in which the call brings the kept token k, names no revision that isn't reached, and finds each row under its own key
pub record Finds (s : Hub) (asked : Asked) (k : Token) : Type 0 where
  pub own : AreOwn s.tables
  pub token : token_of s.tables asked.token ≡ Some k
  pub reached : is_past s.length asked.seen ≡ false

-- the outcome without the revision of its reply
abbrev pub apart : Outcome → Outcome
apart (answered r) = answered (record r { revision = None })
apart (working w) = working w
