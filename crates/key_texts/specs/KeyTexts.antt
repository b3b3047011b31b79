-- The texts of what stands in keys and fields: names, servers, owners, shares and scopes.
use Rattle.std.specs.Prelude.{◌≡◌, ℕ, List, ◌++◌, codes, Ok}
use Rattle.hub_kit.specs.Names.{IsName, IsServerName}
use Rattle.hub_kit.specs.declared.names.ServerKey.{ServerKey}
use Rattle.hub_rows.specs.declared.keys.Recipient.{Recipient}
use Rattle.hub_rows.specs.declared.keys.Recipient.TheVariants as To
use Rattle.hub_rows.specs.declared.keys.ShareKey.{ShareKey}
use Rattle.scope_filters.specs.Scopes.{scope_read, scope_text}
use Rattle.scope_filters.specs.declared.holder.Owner.{Owner}
use Rattle.scope_filters.specs.declared.holder.Owner.TheVariants as Of
use Rattle.scope_filters.specs.declared.scope.RawScope.{RawScope}

-- USER/SERVER
abbrev pub server_text : ServerKey → List ℕ
server_text key = key.user ++ codes "/" ++ key.server

-- user:NAME or service:NAME
abbrev pub owner_text : Owner → List ℕ
owner_text (Of.User user) = codes "user:" ++ user
owner_text (Of.Service service) = codes "service:" ++ service

-- user:NAME or group:NAME
abbrev pub recipient_text : Recipient → List ℕ
recipient_text (To.User user) = codes "user:" ++ user
recipient_text (To.Group group) = codes "group:" ++ group

-- USER/SERVER,user:NAME or USER/SERVER,group:NAME
abbrev pub share_text : ShareKey → List ℕ
share_text key = server_text key.server ++ codes "," ++ recipient_text key.to

-- ---- what is true of each value

pub record IsServer (key : ServerKey) : Type 0 where
  pub user : IsName key.user
  pub server : IsServerName key.server

abbrev pub IsOwner : Owner → Type 0
IsOwner (Of.User user) = IsName user
IsOwner (Of.Service service) = IsName service

abbrev pub IsRecipient : Recipient → Type 0
IsRecipient (To.User user) = IsName user
IsRecipient (To.Group group) = IsName group

pub record IsShareKey (key : ShareKey) : Type 0 where
  pub server : IsServer key.server
  pub to : IsRecipient key.to

-- a scope whose names are of the grammar: its text reads as it
abbrev pub IsScope : RawScope → Type 0
IsScope scope = scope_read (scope_text scope) ≡ Ok scope
