-- The rows that change or go with a user, a group or a service: the puts first and then the removals, each by kind and then key.
use Rattle.std.specs.Prelude.{ℕ, Bool, false, ◌||◌, nat_eq, List, [], ◌∷◌, ◌++◌, map, filter, codes}
use Rattle.std.specs.List.{starts_with}
use Rattle.std.specs.FinMap.{values}
use Rattle.hub_kit.specs.KeyOrder.{name_cmp}
use Rattle.keyed_rows.specs.Sorted.{is_among, without_keys}
use Rattle.hub_kit.specs.declared.names.ServerKey.{ServerKey}
use Rattle.scope_filters.specs.Contexts.{same}
use Rattle.scope_filters.specs.Admits.{same_server}
use Rattle.scope_filters.specs.declared.holder.Owner.{Owner}
use Rattle.scope_filters.specs.declared.holder.Owner.TheVariants as Of
use Rattle.hub_rows.specs.declared.keys.Recipient.{Recipient}
use Rattle.hub_rows.specs.declared.keys.Recipient.TheVariants as To
use Rattle.hub_rows.specs.declared.records.Group.{Group}
use Rattle.hub_rows.specs.declared.records.Role.{Role}
use Rattle.hub_rows.specs.declared.records.Token.{Token}
use Rattle.hub_rows.specs.declared.records.ServerRow.{ServerRow}
use Rattle.hub_rows.specs.declared.records.Share.{Share}
use Rattle.hub_rows.specs.declared.records.ShareCode.{ShareCode}
use Rattle.hub_rows.specs.declared.records.OAuthClient.{OAuthClient}
use Rattle.hub_rows.specs.declared.records.OAuthCode.{OAuthCode}
use Rattle.hub_rows.specs.declared.changes.RowChange.{RowChange}
use Rattle.hub_rows.specs.declared.changes.RowChange.TheVariants.{Put, Remove}
use Rattle.hub_rows.specs.declared.rows.Row.TheVariants as Row
use Rattle.hub_rows.specs.declared.rows.RowKey.TheVariants as RowKey
use Rattle.hub_tables.specs.State.{State}

-- the change of each row that a test takes, in the order of the rows
abbrev pub changes_of : {X : Type 0} → (X → Bool) → (X → RowChange) → List X → List RowChange
changes_of takes change rows = map change (filter takes rows)

-- ---- with a user

abbrev pub has_member : List ℕ → Group → Bool
has_member user group = is_among name_cmp user group.users

abbrev pub without_member : List ℕ → Group → RowChange
without_member user group = Put (Row.Group (record group { users = without_keys name_cmp (user ∷ []) group.users }))

abbrev pub is_held_by_user : List ℕ → Role → Bool
is_held_by_user user role = is_among name_cmp user role.users

abbrev pub without_user : List ℕ → Role → RowChange
without_user user role = Put (Row.Role (record role { users = without_keys name_cmp (user ∷ []) role.users }))

abbrev pub is_user : List ℕ → Owner → Bool
is_user user (Of.User name) = same name user
is_user user (Of.Service name) = false

abbrev pub is_token_of_user : List ℕ → Token → Bool
is_token_of_user user token = is_user user token.owner

abbrev pub is_server_of_user : List ℕ → ServerRow → Bool
is_server_of_user user row = same row.key.user user

abbrev pub is_to_user : List ℕ → Recipient → Bool
is_to_user user (To.User name) = same name user
is_to_user user (To.Group name) = false

-- given by the user, of one of its servers, or received
abbrev pub is_share_of_user : List ℕ → Share → Bool
is_share_of_user user share = same share.key.server.user user || is_to_user user share.key.to

abbrev pub is_code_of_user : List ℕ → ShareCode → Bool
is_code_of_user user code = same code.server.user user

-- how the clients of the user's servers are called: `server:USER/` and the name of the server
abbrev pub clients_of_user : List ℕ → List ℕ
clients_of_user user = codes "server:" ++ user ++ codes "/"

abbrev pub is_called : List ℕ → OAuthClient → Bool
is_called beginning client = starts_with nat_eq client.id beginning

abbrev pub is_grant_of_user : List ℕ → OAuthCode → Bool
is_grant_of_user user code = same code.owner user

-- the user's tokens, servers, shares given and received, share codes, clients and codes of OAuth, and the name from groups and roles
abbrev pub user_rows : State → List ℕ → List RowChange
user_rows s user =
    changes_of (has_member user) (without_member user) (values s.groups)
    ++ changes_of (is_held_by_user user) (without_user user) (values s.roles)
    ++ Remove (RowKey.User user) ∷ []
    ++ changes_of (is_token_of_user user) (λ token. Remove (RowKey.Token token.id)) (values s.tokens)
    ++ changes_of (is_server_of_user user) (λ row. Remove (RowKey.ServerRow row.key)) (values s.servers)
    ++ changes_of (is_share_of_user user) (λ share. Remove (RowKey.Share share.key)) (values s.shares)
    ++ changes_of (is_code_of_user user) (λ code. Remove (RowKey.ShareCode code.id)) (values s.codes)
    ++ changes_of (is_called (clients_of_user user)) (λ client. Remove (RowKey.OAuthClient client.id)) (values s.clients)
    ++ changes_of (is_grant_of_user user) (λ code. Remove (RowKey.OAuthCode code.hash)) (values s.grant_codes)

-- ---- with a group

abbrev pub is_held_by_group : List ℕ → Role → Bool
is_held_by_group group role = is_among name_cmp group role.groups

abbrev pub without_group : List ℕ → Role → RowChange
without_group group role = Put (Row.Role (record role { groups = without_keys name_cmp (group ∷ []) role.groups }))

abbrev pub is_to_group : List ℕ → Recipient → Bool
is_to_group group (To.User name) = false
is_to_group group (To.Group name) = same name group

abbrev pub is_share_to_group : List ℕ → Share → Bool
is_share_to_group group share = is_to_group group share.key.to

-- the group's name from roles, and the shares to it
abbrev pub group_rows : State → List ℕ → List RowChange
group_rows s group =
    changes_of (is_held_by_group group) (without_group group) (values s.roles)
    ++ Remove (RowKey.Group group) ∷ []
    ++ changes_of (is_share_to_group group) (λ share. Remove (RowKey.Share share.key)) (values s.shares)

-- ---- with a service

abbrev pub is_held_by_service : List ℕ → Role → Bool
is_held_by_service service role = is_among name_cmp service role.services

abbrev pub without_service : List ℕ → Role → RowChange
without_service service role = Put (Row.Role (record role { services = without_keys name_cmp (service ∷ []) role.services }))

abbrev pub is_service : List ℕ → Owner → Bool
is_service service (Of.User name) = false
is_service service (Of.Service name) = same name service

abbrev pub is_token_of_service : List ℕ → Token → Bool
is_token_of_service service token = is_service service token.owner

abbrev pub client_of_service : List ℕ → List ℕ
client_of_service service = codes "service:" ++ service

abbrev pub is_client : List ℕ → OAuthClient → Bool
is_client id client = same client.id id

-- the service's tokens and client, and the name from roles
abbrev pub service_rows : State → List ℕ → List RowChange
service_rows s service =
    changes_of (is_held_by_service service) (without_service service) (values s.roles)
    ++ Remove (RowKey.Service service) ∷ []
    ++ changes_of (is_token_of_service service) (λ token. Remove (RowKey.Token token.id)) (values s.tokens)
    ++ changes_of (is_client (client_of_service service)) (λ client. Remove (RowKey.OAuthClient client.id)) (values s.clients)

-- ---- with a server

abbrev pub is_share_of_server : ServerKey → Share → Bool
is_share_of_server server share = same_server share.key.server server

abbrev pub is_code_of_server : ServerKey → ShareCode → Bool
is_code_of_server server code = same_server code.server server

-- the server's row, and the shares and share codes of it
abbrev pub server_rows : State → ServerKey → List RowChange
server_rows s server =
    Remove (RowKey.ServerRow server) ∷ []
    ++ changes_of (is_share_of_server server) (λ share. Remove (RowKey.Share share.key)) (values s.shares)
    ++ changes_of (is_code_of_server server) (λ code. Remove (RowKey.ShareCode code.id)) (values s.codes)
