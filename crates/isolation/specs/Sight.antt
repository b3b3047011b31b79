-- What a token may see of the hub: the objects of which it may ask, and of each the fields whose actions it is allowed.
use Rattle.std.specs.Prelude.{◌≡◌, ◌⊎◌, ◌↔◌, ℕ, Bool, true, List, length, Option, Some, None, if◌then◌else◌}
use Rattle.std.specs.Ordering.{nat_cmp}
use Rattle.std.specs.FinMap.{FinMap, get, contains_key, len}
use Rattle.hub_kit.specs.KeyOrder.{name_cmp, key_cmp}
use Rattle.hub_kit.specs.declared.names.ServerKey.{ServerKey}
use Rattle.scope_names.specs.declared.action.Action.{Action}
use Rattle.scope_names.specs.declared.action.Action.TheVariants as A
use Rattle.scope_filters.specs.declared.object.Object.{Object}
use Rattle.scope_filters.specs.declared.object.Object.TheVariants as Ob
use Rattle.scope_filters.specs.declared.holder.Owner.TheVariants as Own
use Rattle.scope_filters.specs.declared.scope.RawScope.{RawScope}
use Rattle.server_life.specs.declared.life.Life.{Life}
use Rattle.hub_rows.specs.ShareOrder.{share_cmp}
use Rattle.hub_rows.specs.declared.keys.ShareKey.{ShareKey}
use Rattle.hub_rows.specs.declared.records.Group.{Group}
use Rattle.hub_rows.specs.declared.records.Lease.{Lease}
use Rattle.hub_rows.specs.declared.records.Next.{Next}
use Rattle.hub_rows.specs.declared.records.OAuthClient.{OAuthClient}
use Rattle.hub_rows.specs.declared.records.OAuthCode.{OAuthCode}
use Rattle.hub_rows.specs.declared.records.ServerRow.{ServerRow}
use Rattle.hub_rows.specs.declared.records.Share.{Share}
use Rattle.hub_rows.specs.declared.records.ShareCode.{ShareCode}
use Rattle.hub_rows.specs.declared.records.Token.{Token}
use Rattle.hub_rows.specs.declared.records.User.{User}
use Rattle.hub_tables.specs.Lookups.{groups_of, roles_naming_group, roles_naming_service, same_owner}
use Rattle.roles.specs.Rights.{IsAllowed}
use Rattle.hub_view.specs.Json.{Json}
use Rattle.hub_view.specs.Servers.{is_live, is_ready, pending}
use Rattle.shares.specs.Lists.{is_share_of, is_code_of}
use Rattle.shares.specs.declared.lists.CodesOf.{CodesOf}
use Rattle.shares.specs.declared.lists.CodesOf.TheVariants as Codes
use Rattle.shares.specs.declared.lists.SharesOf.{SharesOf}
use Rattle.shares.specs.declared.lists.SharesOf.TheVariants as Shares
use Rattle.hub_machine.specs.State.{Hub, Lives, life_of}
use Rattle.hub_calls.specs.Facts.{roles_of_user}
use Rattle.hub_core.specs.Needs.{has_sharer, has_offerer}

-- In the state s the token k may do the action on the object
abbrev pub May : Hub → Token → Action → Object → Type 0
May s k a x = IsAllowed s.tables k a x

-- ---- the objects of which a token may ask: those that it may list or name, and its owner

-- The token may ask for the user: that is its owner, or one that it may list or name
abbrev pub AsksUser : Hub → Token → List ℕ → Type 0
AsksUser s k u = (k.owner ≡ Own.User u) ⊎ (May s k A.ListUsers (Ob.User u) ⊎ May s k A.ReadUsersName (Ob.User u))

-- The token may ask for the group: one that it may list or name
abbrev pub AsksGroup : Hub → Token → List ℕ → Type 0
AsksGroup s k g = May s k A.ListGroups (Ob.Group g) ⊎ May s k A.ReadGroupsName (Ob.Group g)

-- The token may ask for the service: that is its owner, or one that it may list or name
abbrev pub AsksService : Hub → Token → List ℕ → Type 0
AsksService s k v = (k.owner ≡ Own.Service v) ⊎ (May s k A.ListServices (Ob.Service v) ⊎ May s k A.ReadServicesName (Ob.Service v))

-- ---- servers: nothing is shown of one that isn't live

-- What is shown of a server
pub record ServerSeen : Type 0 where
  pub last_activity : Option ℕ
  pub started : Option ℕ
  pub pending : Json
  pub ready : Bool

-- What is shown of a server with this life and this row, if it is live
abbrev pub seen_row : Life → Option ServerRow → Option ServerSeen
seen_row life None = None
seen_row life (Some r) = if is_live life.phase then Some (record {
  last_activity = r.last_activity;
  started = r.started;
  pending = pending life.phase;
  ready = is_ready life.phase;
}) else None

-- What is shown of the server q in the state s
abbrev pub server_seen : Hub → ServerKey → Option ServerSeen
server_seen s q = seen_row (life_of s.lives q) (get s.tables.servers q)

abbrev pub server : (user name : List ℕ) → ServerKey
server user name = record { user = user; server = name }

-- ---- tokens of a user: neither its hash is shown of one, nor the server that it was issued for

-- What is shown of a token
pub record TokenSeen : Type 0 where
  pub client : Option (List ℕ)
  pub created : ℕ
  pub expires_at : Option ℕ
  pub note : List ℕ
  pub scopes : List RawScope

-- What is shown of this token among those of the user, if it is the user's
abbrev pub seen_token : (user : List ℕ) → Option Token → Option TokenSeen
seen_token user None = None
seen_token user (Some x) = if same_owner x.owner (Own.User user) then Some (record {
  client = x.client;
  created = x.created;
  expires_at = x.expires_at;
  note = x.note;
  scopes = x.scopes;
}) else None

-- What is shown of the token with this id among those of the user
abbrev pub token_seen : Hub → (user : List ℕ) → (id : ℕ) → Option TokenSeen
token_seen s user id = seen_token user (get s.tables.tokens id)

-- ---- shares, and share codes but their hashes

-- The token may read these shares
abbrev pub ReadsShares : Hub → Token → SharesOf → Type 0
ReadsShares s k (Shares.Recipient u) = May s k A.ReadUsersShares (Ob.User u)
ReadsShares s k (Shares.Owner u) = May s k A.ReadShares (Ob.User u)
ReadsShares s k (Shares.Server q) = May s k A.ReadShares (Ob.Server q)

-- The token may read these share codes
abbrev pub ReadsCodes : Hub → Token → CodesOf → Type 0
ReadsCodes s k (Codes.Owner u) = May s k A.ReadShares (Ob.User u)
ReadsCodes s k (Codes.Server q) = May s k A.ReadShares (Ob.Server q)

-- What is shown of a share code
pub record CodeSeen : Type 0 where
  pub created : ℕ
  pub expires_at : ℕ
  pub scopes : List RawScope
  pub server : ServerKey

-- What is shown of this code among those that are asked for, if it is one of them
abbrev pub seen_code : CodesOf → Option ShareCode → Option CodeSeen
seen_code whose None = None
seen_code whose (Some c) = if is_code_of whose c then Some (record {
  created = c.created;
  expires_at = c.expires_at;
  scopes = c.scopes;
  server = c.server;
}) else None

-- What is shown of the code with this id among those that are asked for
abbrev pub code_seen : Hub → CodesOf → (id : ℕ) → Option CodeSeen
code_seen s whose id = seen_code whose (get s.tables.codes id)

-- ---- the same is seen of an object in two states: each field that is shown

-- Of the user u, whose row is x in the state s and y in the state t, the token k sees the same in both: each field is the same whose action
-- it may
pub record SameUser (k : Token) (s t : Hub) (u : List ℕ) (x y : User) : Type 0 where
  pub admin : May s k A.ReadUsers (Ob.User u) → x.admin ≡ y.admin
  pub created : May s k A.ReadUsers (Ob.User u) → x.created ≡ y.created
  pub last_activity : May s k A.ReadUsersActivity (Ob.User u) → x.last_activity ≡ y.last_activity
  pub groups : May s k A.ReadUsersGroups (Ob.User u) → groups_of s.tables u ≡ groups_of t.tables u
  pub roles : May s k A.ReadRolesUsers (Ob.User u) → roles_of_user s.tables x ≡ roles_of_user t.tables y
  pub servers : (name : List ℕ) → May s k A.ReadServers (Ob.Server (server u name))
      → server_seen s (server u name) ≡ server_seen t (server u name)

-- The same of the group g, whose rows are x and y
pub record SameGroup (k : Token) (s t : Hub) (g : List ℕ) (x y : Group) : Type 0 where
  pub users : May s k A.ReadGroups (Ob.Group g) → x.users ≡ y.users
  pub roles : May s k A.ReadRolesGroups (Ob.Group g) → roles_naming_group s.tables g ≡ roles_naming_group t.tables g

-- The same of the service v
pub record SameService (k : Token) (s t : Hub) (v : List ℕ) : Type 0 where
  pub there : contains_key s.tables.services v ≡ contains_key t.tables.services v
  pub roles : May s k A.ReadRolesServices (Ob.Service v) → roles_naming_service s.tables v ≡ roles_naming_service t.tables v

-- The user u is there in both states or in neither, and the same is shown of its tokens
pub record SameTokens (s t : Hub) (u : List ℕ) : Type 0 where
  pub there : contains_key s.tables.users u ≡ contains_key t.tables.users u
  pub each : (id : ℕ) → token_seen s u id ≡ token_seen t u id

-- Those whose shares are asked for are there in both states or in neither, and these shares are the same
pub record SameShares (s t : Hub) (whose : SharesOf) : Type 0 where
  pub there : has_sharer s.tables whose ≡ has_sharer t.tables whose
  pub each : (key : ShareKey) → is_share_of whose key ≡ true → get s.tables.shares key ≡ get t.tables.shares key

-- Those whose share codes are asked for are there in both states or in neither, and the same is shown of these codes
pub record SameCodes (s t : Hub) (whose : CodesOf) : Type 0 where
  pub there : has_offerer s.tables whose ≡ has_offerer t.tables whose
  pub each : (id : ℕ) → code_seen s whose id ≡ code_seen t whose id

-- A row is there in both states, and the two are alike, or it is there in neither
abbrev pub InBoth : {X : Type 0} → (X → X → Type 0) → Option X → Option X → Type 0
InBoth Same None None = Unit {0}
InBoth Same (Some x) (Some y) = Same x y
InBoth Same _ _ = ⊥

-- ---- the whole: a token is allowed the same in two states, and sees the same in them

-- The token k is allowed the same in the states s and t, and sees the same in them, as far as it is allowed
pub record SeesSame (k : Token) (s t : Hub) : Type 0 where
  pub allowed : (a : Action) (x : Object) → May s k a x ↔ May t k a x
  pub pool : May s k A.ReadHub Ob.Hub → length s.pool ≡ length t.pool
  pub leases : May s k A.ReadHub Ob.Hub → len s.lives ≡ len t.lives
  pub users : (u : List ℕ) → AsksUser s k u → InBoth (SameUser k s t u) (get s.tables.users u) (get t.tables.users u)
  pub groups : (g : List ℕ) → AsksGroup s k g → InBoth (SameGroup k s t g) (get s.tables.groups g) (get t.tables.groups g)
  pub services : (v : List ℕ) → AsksService s k v → SameService k s t v
  pub roles : May s k A.AdminRoles Ob.Hub → (r : List ℕ) → get s.tables.roles r ≡ get t.tables.roles r
  pub tokens : (u : List ℕ) → May s k A.ReadTokens (Ob.User u) → SameTokens s t u
  pub shares : (whose : SharesOf) → ReadsShares s k whose → SameShares s t whose
  pub codes : (whose : CodesOf) → ReadsCodes s k whose → SameCodes s t whose

-- ---- states with other rows

-- The state with these users in place of its own
abbrev pub with_users : Hub → FinMap name_cmp User → Hub
with_users s rows = record s { tables = record s.tables { users = rows } }

-- The state with these rows of servers and these live servers in place of its own
abbrev pub with_servers : Hub → FinMap key_cmp ServerRow → Lives → Hub
with_servers s rows lives = record s { tables = record s.tables { servers = rows }; lives = lives }

-- The state with these tokens in place of its own
abbrev pub with_tokens : Hub → FinMap nat_cmp Token → Hub
with_tokens s rows = record s { tables = record s.tables { tokens = rows } }

-- The state with these shares in place of its own
abbrev pub with_shares : Hub → FinMap share_cmp Share → Hub
with_shares s rows = record s { tables = record s.tables { shares = rows } }

-- The state with these share codes in place of its own
abbrev pub with_codes : Hub → FinMap nat_cmp ShareCode → Hub
with_codes s rows = record s { tables = record s.tables { codes = rows } }

-- Rows of the kinds that no right and no body of a built GET depends on
pub record OtherRows : Type 0 where
  pub leases : FinMap name_cmp Lease
  pub clients : FinMap name_cmp OAuthClient
  pub grant_codes : FinMap name_cmp OAuthCode
  pub nexts : FinMap name_cmp Next

-- The state with these rows in place of its own of those kinds
abbrev pub with_others : Hub → OtherRows → Hub
with_others s rows = record s {
  tables = record s.tables {
    leases = rows.leases;
    clients = rows.clients;
    grant_codes = rows.grant_codes;
    nexts = rows.nexts;
  };
}
