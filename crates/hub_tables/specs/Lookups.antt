-- What the rules look up in the tables.
use Rattle.std.specs.Prelude.{ℕ, Bool, true, false, ◌&&◌, ◌||◌, List, [], ◌∷◌, map, Option, Some, None}
use Rattle.std.specs.List.{filter}
use Rattle.std.specs.FinMap.{get, contains_key, values}
use Rattle.hub_kit.specs.KeyOrder.{name_cmp}
use Rattle.hub_kit.specs.declared.names.ServerKey.{ServerKey}
use Rattle.keyed_rows.specs.Sorted.{is_among}
use Rattle.scope_filters.specs.Contexts.{same}
use Rattle.scope_filters.specs.declared.holder.Owner.{Owner}
use Rattle.scope_filters.specs.declared.holder.Owner.TheVariants as Of
use Rattle.hub_rows.specs.declared.keys.Recipient.{Recipient}
use Rattle.hub_rows.specs.declared.keys.Recipient.TheVariants as To
use Rattle.hub_rows.specs.declared.keys.ShareKey.{ShareKey}
use Rattle.hub_rows.specs.declared.records.ServerRow.{ServerRow}
use Rattle.hub_rows.specs.declared.records.Share.{Share}
use Rattle.hub_rows.specs.declared.records.ShareCode.{ShareCode}
use Rattle.hub_rows.specs.declared.records.Token.{Token}
use Rattle.hub_rows.specs.declared.records.User.{User}
use Rattle.hub_rows.specs.declared.records.Group.{Group}
use Rattle.hub_rows.specs.declared.records.Role.{Role}
use Rattle.hub_rows.specs.declared.records.Next.{Next}
use Rattle.hub_tables.specs.Ends.{is_over}
use Rattle.hub_tables.specs.Hashes.{row_with}
use Rattle.hub_tables.specs.Memberships.{members_of}
use Rattle.hub_tables.specs.State.{State}

abbrev pub is_admin_row : Option User → Bool
is_admin_row None = false
is_admin_row (Some user) = user.admin

abbrev pub is_admin : State → (user : List ℕ) → Bool
is_admin s user = is_admin_row (get s.users user)

abbrev pub is_member : State → (user group : List ℕ) → Bool
is_member s user group = is_among name_cmp user (members_of s.groups group)

-- the names of the groups that a user is in, in their order
abbrev pub groups_of : State → (user : List ℕ) → List (List ℕ)
groups_of s user = map (λ (g : Group). g.name) (filter (λ (g : Group). is_among name_cmp user g.users) (values s.groups))

-- the names of the roles that name a user, a group or a service, in their order
abbrev pub roles_naming_user : State → (user : List ℕ) → List (List ℕ)
roles_naming_user s user = map (λ (r : Role). r.name) (filter (λ (r : Role). is_among name_cmp user r.users) (values s.roles))

abbrev pub roles_naming_group : State → (group : List ℕ) → List (List ℕ)
roles_naming_group s group = map (λ (r : Role). r.name) (filter (λ (r : Role). is_among name_cmp group r.groups) (values s.roles))

abbrev pub roles_naming_service : State → (service : List ℕ) → List (List ℕ)
roles_naming_service s service = map (λ (r : Role). r.name) (filter (λ (r : Role). is_among name_cmp service r.services) (values s.roles))

abbrev pub number_of : Option Next → ℕ
number_of None = 1
number_of (Some row) = row.next

-- the next number of a kind of numbers: `code`, `generation` or `token`
abbrev pub next_of : State → (kind : List ℕ) → ℕ
next_of s kind = number_of (get s.nexts kind)

abbrev pub is_default : (server : List ℕ) → Bool
is_default [] = true
is_default (b ∷ bs) = false

-- two owners are one
abbrev pub same_owner : Owner → Owner → Bool
same_owner (Of.User a) (Of.User b) = same a b
same_owner (Of.Service a) (Of.Service b) = same a b
same_owner _ _ = false

-- the ids of an owner's tokens, in order
abbrev pub tokens_of : State → Owner → List ℕ
tokens_of s owner = map (λ (k : Token). k.id) (filter (λ (k : Token). same_owner k.owner owner) (values s.tokens))

-- the ids of an owner's tokens that are over, in order
abbrev pub tokens_over : State → Owner → (now : ℕ) → List ℕ
tokens_over s owner now = map (λ (k : Token). k.id)
    (filter (λ (k : Token). same_owner k.owner owner && is_over now k.expires_at) (values s.tokens))

-- the keys of a user's servers, in order
abbrev pub servers_of : State → (user : List ℕ) → List ServerKey
servers_of s user = map (λ (row : ServerRow). row.key) (filter (λ (row : ServerRow). same row.key.user user) (values s.servers))

abbrev pub same_recipient : Recipient → Recipient → Bool
same_recipient (To.User a) (To.User b) = same a b
same_recipient (To.Group a) (To.Group b) = same a b
same_recipient _ _ = false

-- it is of a server of the user
abbrev pub is_given_by : Recipient → ShareKey → Bool
is_given_by (To.User user) key = same key.server.user user
is_given_by (To.Group group) key = false

-- a share that a user gave or received, or that a group received
abbrev pub is_share_with : Recipient → Share → Bool
is_share_with to share = is_given_by to share.key || same_recipient share.key.to to

-- the keys of these, in order
abbrev pub shares_with : State → Recipient → List ShareKey
shares_with s to = map (λ (share : Share). share.key) (filter (is_share_with to) (values s.shares))

-- a server is there where its user is kept, and its name is empty or its row is kept
abbrev pub has_server : State → ServerKey → Bool
has_server s key = contains_key s.users key.user && (is_default key.server || contains_key s.servers key)

-- the kept token of a hash, and the kept share code of one
abbrev pub token_of_hash : State → (hash : List ℕ) → Option Token
token_of_hash s hash = row_with (λ (k : Token). k.hash) hash s.tokens

abbrev pub code_of_hash : State → (hash : List ℕ) → Option ShareCode
code_of_hash s hash = row_with (λ (c : ShareCode). c.hash) hash s.codes
