-- Tokens, roles, shares and share codes, which are shown with all their fields.
use Rattle.std.specs.Prelude.{ℕ, List, [], ◌∷◌, ◌++◌, decimal, codes}
use Rattle.hub_kit.specs.declared.names.ServerKey.{ServerKey}
use Rattle.scope_filters.specs.declared.holder.Owner.{Owner}
use Rattle.scope_filters.specs.declared.holder.Owner.TheVariants as Of
use Rattle.hub_rows.specs.declared.keys.Recipient.{Recipient}
use Rattle.hub_rows.specs.declared.keys.Recipient.TheVariants as To
use Rattle.hub_rows.specs.declared.records.Token.{Token}
use Rattle.hub_rows.specs.declared.records.Role.{Role}
use Rattle.hub_rows.specs.declared.records.Share.{Share}
use Rattle.hub_rows.specs.declared.records.ShareCode.{ShareCode}
use Rattle.hub_view.specs.Json.{Json, Member, line, lines, maybe, nothing, pairs}
use Rattle.hub_view.specs.Servers.{at}
use Rattle.hub_view.specs.Fields.{scope_lines}

-- U/S
abbrev pub key_line : ServerKey → Json
key_line k = line (k.user ++ codes "/" ++ k.server)

-- the user that a token belongs to, if it is a user's
abbrev pub user_of : Owner → Json
user_of (Of.User u) = line u
user_of (Of.Service v) = nothing

-- a token's fields up to its scopes
unfoldable pub token_members : Token → List Member
token_members k =
    (codes "created", at k.created)
    ∷ (codes "expires_at", maybe at k.expires_at)
    ∷ (codes "id", line (decimal k.id))
    ∷ (codes "kind", line (codes "api_token"))
    ∷ (codes "note", line k.note)
    ∷ (codes "oauth_client", maybe line k.client)
    ∷ (codes "scopes", scope_lines k.scopes)
    ∷ []

abbrev pub token_body : Token → Json
token_body k = pairs (token_members k ++ (codes "user", user_of k.owner) ∷ [])

-- the token that was just made, with its text
abbrev pub new_token_body : Token → List ℕ → Json
new_token_body k text = pairs (token_members k ++ (codes "token", line text) ∷ (codes "user", user_of k.owner) ∷ [])

abbrev pub role_body : Role → Json
role_body r = pairs (
    (codes "groups", lines r.groups)
    ∷ (codes "name", line r.name)
    ∷ (codes "scopes", scope_lines r.scopes)
    ∷ (codes "services", lines r.services)
    ∷ (codes "users", lines r.users)
    ∷ [])

abbrev pub group_to : Recipient → Json
group_to (To.User u) = nothing
group_to (To.Group g) = line g

abbrev pub user_to : Recipient → Json
user_to (To.User u) = line u
user_to (To.Group g) = nothing

-- of group and user the one that isn't the recipient is null
abbrev pub share_body : Share → Json
share_body x = pairs (
    (codes "created", at x.created)
    ∷ (codes "group", group_to x.key.to)
    ∷ (codes "scopes", scope_lines x.scopes)
    ∷ (codes "server", key_line x.key.server)
    ∷ (codes "user", user_to x.key.to)
    ∷ [])

abbrev pub code_members : ShareCode → List Member
code_members c =
    (codes "created", at c.created)
    ∷ (codes "expires_at", at c.expires_at)
    ∷ (codes "id", line (decimal c.id))
    ∷ (codes "scopes", scope_lines c.scopes)
    ∷ (codes "server", key_line c.server)
    ∷ []

abbrev pub code_body : ShareCode → Json
code_body c = pairs (code_members c)

-- the code that was just made, with its text
abbrev pub new_code_body : ShareCode → List ℕ → Json
new_code_body c text = pairs ((codes "code", line text) ∷ code_members c)
