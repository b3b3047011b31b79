-- The state that a book begins with: what its keeper has, all that is configured on top of it, and a history without entries.
use Rattle.std.specs.Prelude.{◌≡◌, ℕ, ◌+◌, Bool, not, ◌||◌, ◌&&◌, nat_lt, List, [], ◌++◌, fold, codes, Option, Some, None, Result, Ok, Err}
use Rattle.std.specs.Prelude.{if◌then◌else◌}
use Rattle.std.specs.List.{filter}
use Rattle.std.specs.Option.{is_some}
use Rattle.std.specs.FinMap.{FinMap, get, contains_key, insert, len}
use Rattle.std.specs.declared.cmp.Ordering.{Ordering}
use Rattle.hub_devices.specs.Faults.{Rises}
use Rattle.hub_kit.specs.Hashes.{hash_text}
use Rattle.hub_kit.specs.KeyOrder.{name_cmp}
use Rattle.scope_names.specs.declared.custom.CustomRow.{CustomRow}
use Rattle.hub_rows.specs.declared.limits.Limits.{Limits}
use Rattle.hub_rows.specs.declared.records.User.{User}
use Rattle.hub_rows.specs.declared.records.Group.{Group}
use Rattle.hub_rows.specs.declared.records.Role.{Role}
use Rattle.hub_rows.specs.declared.records.Token.{Token}
use Rattle.hub_rows.specs.declared.records.OAuthClient.{OAuthClient}
use Rattle.hub_rows.specs.declared.records.Next.{Next}
use Rattle.hub_tables.specs.Hashes.{row_with}
use Rattle.hub_tables.specs.Lookups.{next_of}
use Rattle.hub_tables.specs.State.{State}
use Rattle.keeper.specs.declared.keeper.Item.{Item}
use Rattle.keeper.specs.declared.keeper.KeeperError.{KeeperError}
use Rattle.keeper.specs.declared.keeper.KeeperError.TheVariants.{Failed, Memory as Wanting}
use Rattle.keeper.specs.Rows.{Rows, after_items}
use Rattle.row_rules.specs.Across.{has_owner}
use Rattle.hub_machine.specs.KeptRows.{Keeps}
use Rattle.hub_machine.specs.State.{Hub}
use Rattle.hub_opening.specs.Kept.{AreLoaded, IsRefusedRow, lives_in, lost_target, with_generations}
use Rattle.hub_opening.specs.declared.changed.Changed.{Changed}
use Rattle.hub_opening.specs.declared.config.ConfigUser.{ConfigUser}
use Rattle.hub_opening.specs.declared.config.ConfigService.{ConfigService}
use Rattle.hub_opening.specs.declared.config.ConfigToken.{ConfigToken}
use Rattle.hub_opening.specs.declared.config.HubConfig.{HubConfig}
use Rattle.hub_opening.specs.declared.open_error.OpenError.{OpenError}
use Rattle.hub_opening.specs.declared.open_error.OpenError.TheVariants.{KeeperFault, BadRow, LostTarget, Full, Memory}
use Rattle.hub_opening.specs.declared.opening.Opened.{Opened}

-- The greatest limits that there are
abbrev pub greatest_limits : Limits
greatest_limits = record {
  users = 100000;
  groups = 10000;
  services = 1000;
  roles = 1000;
  servers = 100;
  tokens = 1000000;
  shares = 100000;
  codes = 100000;
  trail_bytes = 1073741824;
}

-- ---- users

-- a new one, or the one of this name that is there, who is an admin from now on if this one is
abbrev pub user_row : ℕ → ConfigUser → Option User → User
user_row now u None = record { name = u.name; admin = u.admin; created = now; last_activity = None }
user_row now u (Some x) = record { name = u.name; admin = x.admin || u.admin; created = x.created; last_activity = x.last_activity }

-- The tables with this configured user, at the moment `now`
abbrev pub with_user : ℕ → State → ConfigUser → State
with_user now t u = record t { users = insert t.users u.name (user_row now u (get t.users u.name)) }

-- ---- groups, services and roles

-- a row under its key, where none is there
abbrev pub put_new : {K X : Type 0} {R : K → K → Ordering} → K → X → FinMap R X → FinMap R X
put_new key row rows = if contains_key rows key then rows else insert rows key row

-- those of these names whose rows are there
abbrev pub kept_names : {X : Type 0} → FinMap name_cmp X → List (List ℕ) → List (List ℕ)
kept_names rows names = filter (contains_key rows) names

-- where none of its name is there, with those of its users that are
abbrev pub with_group : State → Group → State
with_group t g = record t { groups = put_new g.name (record { name = g.name; users = kept_names t.users g.users }) t.groups }

-- the client of a service, by its name, its redirect URI and its secret
abbrev pub client_with : List ℕ → Option (List ℕ) → Option (List ℕ) → Option OAuthClient
client_with name (Some uri) (Some secret) = Some (record { id = codes "service:" ++ name; hash = hash_text secret; redirect_uri = uri })
client_with name _ _ = None

-- The client of a configured service, if it is one
abbrev pub client_of : ConfigService → Option OAuthClient
client_of s = client_with s.name s.redirect_uri s.secret

-- the client, if there is one, in place of the one of its id
abbrev pub with_client : Option OAuthClient → FinMap name_cmp OAuthClient → FinMap name_cmp OAuthClient
with_client None rows = rows
with_client (Some client) rows = insert rows client.id client

-- its row, where none of its name is there, and its client
abbrev pub with_service : State → ConfigService → State
with_service t s = record t {
  services = put_new s.name (record { name = s.name }) t.services;
  clients = with_client (client_of s)
      t.clients;
}

-- it names those of its holders that are there
abbrev pub role_row : State → Role → Role
role_row t r = record {
  name = r.name;
  groups = kept_names t.groups r.groups;
  scopes = r.scopes;
  services = kept_names t.services r.services;
  users = kept_names t.users r.users;
}

-- in place of the one of its name
abbrev pub with_role : State → Role → State
with_role t r = record t { roles = insert t.roles r.name (role_row t r) }

-- ---- tokens

-- The number of the next token
abbrev pub next_token : State → ℕ
next_token t = next_of t (codes "token")

-- The row of a configured token with this id and hash, made at the moment `now`
abbrev pub row_of_hash : ℕ → ℕ → List ℕ → ConfigToken → Token
row_of_hash id now hash k =
    record {
      id = id;
      client = None;
      created = now;
      expires_at = None;
      hash = hash;
      issued_for = None;
      note = [];
      owner = k.owner;
      scopes = k.scopes;
    }

-- The row of a configured token with this id, made at the moment `now`
abbrev pub token_row : ℕ → ℕ → ConfigToken → Token
token_row id now k = row_of_hash id now (hash_text k.text) k

-- neither its number nor its hash is there, and its owner is
abbrev pub is_added : State → ConfigToken → Bool
is_added t k =
    not (contains_key t.tokens (next_token t) || is_some (row_with (λ row. row.hash) (hash_text k.text) t.tokens)) && has_owner t k.owner

-- The tables with this token and this next number
abbrev pub both_put : Token → Next → State → State
both_put k next t = record t { tokens = insert t.tokens k.id k; nexts = insert t.nexts next.name next }

-- the token under its number, and the number after it as the next
abbrev pub added : ℕ → ConfigToken → State → State
added now k t = both_put (token_row (next_token t) now k) (record { name = codes "token"; next = next_token t + 1 }) t

-- The tables with this configured token, where it is to be added, at the moment `now`
abbrev pub with_token : ℕ → State → ConfigToken → State
with_token now t k = if is_added t k then added now k t else t

-- ---- the whole

-- The tables with all that is configured, at the moment `now`: its users, groups, services, roles and tokens, each in order, on top of what
-- is there
abbrev pub configured : HubConfig → ℕ → State → State
configured c now t =
    let people = fold (with_user now) t c.users in
    let services = fold with_service (fold with_group people c.groups) c.services in
    fold (with_token now) (fold with_role services c.roles) c.tokens

-- the kept tables, with a generation for each lease and all that is configured
abbrev pub opened_tables : HubConfig → ℕ → (kept : State) → State
opened_tables c now kept = configured c now (with_generations kept)

-- a hub over these tables, with a history without entries
abbrev pub over : HubConfig → State → Hub
over c t = record {
  tables = t;
  lives = lives_in t;
  length = 0;
  cost = 0;
  pool = c.pool;
  hub_url = c.hub_url;
  no_trail = c.no_trail;
}

-- The state that a book begins with, over these kept tables, by this configuration at the moment `now`
abbrev pub opened : HubConfig → ℕ → (kept : State) → Hub
opened c now kept = over c (opened_tables c now kept)

-- the kind with its limit, where it has more rows
abbrev pub past_limit : (kind limit rows : ℕ) → Option (ℕ × ℕ) → Option (ℕ × ℕ)
past_limit kind limit rows other = if nat_lt limit rows then Some (kind, limit) else other

-- of shares, share codes, clients and codes of the grant
abbrev pub first_full_grant : State → Option (ℕ × ℕ)
first_full_grant t =
    past_limit 8 t.limits.shares (len t.shares)
    (past_limit 9 t.limits.codes (len t.codes)
    (past_limit 10 2000 (len t.clients)
    (past_limit 11 t.limits.codes (len t.grant_codes) None)))

-- the first kind that has more rows than its limit, and this limit. Servers, leases and next numbers have none
abbrev pub first_full : State → Option (ℕ × ℕ)
first_full t =
    past_limit 1 t.limits.users (len t.users)
    (past_limit 2 t.limits.groups (len t.groups)
    (past_limit 3 t.limits.services (len t.services)
    (past_limit 4 t.limits.roles (len t.roles)
    (past_limit 5 t.limits.tokens (len t.tokens) (first_full_grant t)))))

-- ---- what opening answers

-- after these items a keeper that had the rows of the first tables has those of the others
abbrev pub Brings : State → List Item → State → Type 0
Brings before items after = (has : Rows) → Keeps has before → Keeps (after_items items has) after

-- the lease that has no target in the pool
abbrev pub IsLostOr : (pool : List (List ℕ)) → State → OpenError → Type 0
IsLostOr pool t KeeperFault = ⊥
IsLostOr pool t (BadRow number name) = ⊥
IsLostOr pool t (LostTarget target) = lost_target pool t ≡ Some target
IsLostOr pool t (Full number limit) = ⊥
IsLostOr pool t Memory = Unit {0}

-- the machine over changed tables, unless memory was wanting
abbrev pub IsOver : HubConfig → Changed → Result Opened OpenError → Type 0
IsOver c changed (Ok made) = (made.machine ≡ over c changed.tables) × (made.batch ≡ changed.batch)
IsOver c changed (Err KeeperFault) = ⊥
IsOver c changed (Err (BadRow number name)) = ⊥
IsOver c changed (Err (LostTarget target)) = ⊥
IsOver c changed (Err (Full number limit)) = ⊥
IsOver c changed (Err Memory) = Unit {0}

-- the state that the configuration makes of kept tables, and the items that bring a keeper there
pub record IsMadeOf (c : HubConfig) (now : ℕ) (kept : State) (made : Opened) : Type 0 where
  pub hub : made.machine ≡ opened c now kept
  pub pooled : lost_target c.pool kept ≡ None
  pub fits : first_full (opened_tables c now kept) ≡ None
  pub brings : Brings kept made.batch (opened_tables c now kept)

-- What the configuration makes of kept tables at the moment `now`, or why it makes nothing of them: first a lease without its target, and
-- then a kind past its limit
abbrev pub IsMade : HubConfig → ℕ → (kept : State) → Result Opened OpenError → Type 0
IsMade c now kept (Ok made) = IsMadeOf c now kept made
IsMade c now kept (Err KeeperFault) = ⊥
IsMade c now kept (Err (BadRow number name)) = ⊥
IsMade c now kept (Err (LostTarget target)) = lost_target c.pool kept ≡ Some target
IsMade c now kept (Err (Full number limit)) = (lost_target c.pool kept ≡ None)
    × (first_full (opened_tables c now kept) ≡ Some (number, limit))
IsMade c now kept (Err Memory) = Unit {0}

-- This is the state that the configuration makes at the moment `now` of the rows `has` that the keeper had, if it tells them (`Tells`):
-- each reads, none breaks a rule across rows, each lease has its target in the pool, and no kind has more rows than its limit
pub record IsSetUp (c : HubConfig) (now : ℕ) (Tells : Type 0) (has : Rows) (state : Hub) : Type 0 where
  pub kept : State
  pub loaded : AreLoaded c.limits c.custom_scopes Tells has kept
  pub hub : state ≡ opened c now kept
  pub pooled : lost_target c.pool kept ≡ None
  pub fits : first_full (opened_tables c now kept) ≡ None

-- The refusal of an opening, by that of the keeper
abbrev pub refusal_of : KeeperError → OpenError
refusal_of Failed = KeeperFault
refusal_of Wanting = Memory

-- Why the keeper's rows `has` aren't taken, if it tells them (`Tells`): it failed, and its count rose from `before` to `after`; a row is
-- bad; or memory was wanting
abbrev pub IsUnread : Limits → List CustomRow → (Tells : Type 0) → Rows → (before after : ℕ) → OpenError → Type 0
IsUnread limits scopes Tells has before after KeeperFault = Rises before after
IsUnread limits scopes Tells has before after (BadRow number name) = IsRefusedRow limits scopes Tells has number name
IsUnread limits scopes Tells has before after (LostTarget target) = ⊥
IsUnread limits scopes Tells has before after (Full number limit) = ⊥
IsUnread limits scopes Tells has before after Memory = Unit {0}

-- Why rows aren't kept: the keeper failed, and its count rose, or memory was wanting
abbrev pub IsUnkept : (before after : ℕ) → OpenError → Type 0
IsUnkept before after KeeperFault = Rises before after
IsUnkept before after (BadRow number name) = ⊥
IsUnkept before after (LostTarget target) = ⊥
IsUnkept before after (Full number limit) = ⊥
IsUnkept before after Memory = Unit {0}

-- the first of the kept leases, in the order of targets, that has no target in the pool
pub record IsLost (c : HubConfig) (Tells : Type 0) (has : Rows) (target : List ℕ) : Type 0 where
  pub kept : State
  pub loaded : AreLoaded c.limits c.custom_scopes Tells has kept
  pub lost : lost_target c.pool kept ≡ Some target

-- the first kind that would have more rows than its limit
pub record IsFull (c : HubConfig) (now : ℕ) (Tells : Type 0) (has : Rows) (number limit : ℕ) : Type 0 where
  pub kept : State
  pub loaded : AreLoaded c.limits c.custom_scopes Tells has kept
  pub pooled : lost_target c.pool kept ≡ None
  pub full : first_full (opened_tables c now kept) ≡ Some (number, limit)

-- why a book isn't opened, by the rows and the faults of the keeper that is handed in, and whether its rows are told
abbrev pub IsRefused : HubConfig → ℕ → (Tells : Type 0) → Rows → (before after : ℕ) → OpenError → Type 0
IsRefused c now Tells has before after KeeperFault = Rises before after
IsRefused c now Tells has before after (BadRow number name) = IsRefusedRow c.limits c.custom_scopes Tells has number name
IsRefused c now Tells has before after (LostTarget target) = IsLost c Tells has target
IsRefused c now Tells has before after (Full number limit) = IsFull c now Tells has number limit
IsRefused c now Tells has before after Memory = Unit {0}
