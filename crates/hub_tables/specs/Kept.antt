-- The trees behind the tables: which state they hold, and what is always true of them.
use Rattle.std.specs.Prelude.{ℕ, List, Option}
use Rattle.std.specs.Ordering.{nat_cmp}
use Rattle.std.specs.BTreeMap.{BTreeMap, IsOrdered}
use Rattle.hub_kit.specs.KeyOrder.{name_cmp, key_cmp}
use Rattle.keyed_rows.specs.Rows.{map_of, OwnKeys}
use Rattle.scope_names.specs.declared.custom.CustomRow.{CustomRow}
use Rattle.hub_rows.specs.declared.limits.Limits.{Limits}
use Rattle.hub_tables.specs.declared.trees.Trees.{Trees}
use Rattle.hub_tables.specs.declared.memberships.RoleIndexes.{RoleIndexes}
use Rattle.hub_tables.specs.MemberIndexes.{TellsGroups, TellsRoles}
use Rattle.hub_rows.specs.ShareOrder.{share_cmp}
use Rattle.hub_rows.specs.declared.records.Group.{Group}
use Rattle.hub_rows.specs.declared.records.Role.{Role}
use Rattle.hub_rows.specs.declared.records.Share.{Share}
use Rattle.hub_rows.specs.declared.records.Token.{Token}
use Rattle.hub_rows.specs.declared.keys.ShareKey.{ShareKey}
use Rattle.row_indexes.specs.Hashes.{IsIndexed}
use Rattle.row_indexes.specs.Owned.{owned_cmp, IsIndex}
use Rattle.row_indexes.specs.declared.owned.OwnedKey.{OwnedKey}
use Rattle.hub_tables.specs.declared.parties.Party.{Party}
use Rattle.hub_tables.specs.Parties.{party_cmp, is_numbered, is_share_of}
use Rattle.hub_tables.specs.State.{State}

-- the state that the trees hold
abbrev pub state_of : Trees → Limits → List CustomRow → State
state_of t limits scopes = record {
  users = map_of name_cmp t.users;
  groups = map_of name_cmp t.groups;
  services = map_of name_cmp t.services;
  roles = map_of name_cmp t.roles;
  tokens = map_of nat_cmp t.tokens;
  servers = map_of key_cmp t.servers;
  leases = map_of name_cmp t.leases;
  shares = map_of share_cmp t.shares;
  codes = map_of nat_cmp t.codes;
  clients = map_of name_cmp t.clients;
  grant_codes = map_of name_cmp t.grant_codes;
  nexts = map_of name_cmp t.nexts;
  limits = limits;
  scopes = scopes;
}

-- rows under their ids, with an index of their hashes
pub record IsKeptByHash {X : Type 0} (id_of : X → ℕ) (hash_of : X → List ℕ) (rows : BTreeMap ℕ X) (ids : BTreeMap ℕ ℕ) : Type 0 where
  pub own : OwnKeys id_of (map_of nat_cmp rows)
  pub ordered : IsOrdered nat_cmp rows
  pub indexed : IsIndexed hash_of (map_of nat_cmp rows) (map_of nat_cmp ids)

-- tokens under their ids, with indexes of their hashes and their owners
pub record AreTokensKept (rows : BTreeMap ℕ Token) (ids : BTreeMap ℕ ℕ) (owners : BTreeMap (OwnedKey ℕ ℕ) (Unit {0})) : Type 0 where
  pub own : OwnKeys (λ (row : Token). row.id) (map_of nat_cmp rows)
  pub ordered : IsOrdered nat_cmp rows
  pub indexed : IsIndexed (λ (row : Token). row.hash) (map_of nat_cmp rows) (map_of nat_cmp ids)
  pub owned : IsIndex nat_cmp nat_cmp is_numbered (map_of nat_cmp rows) (map_of (owned_cmp nat_cmp nat_cmp) owners)

-- groups under their names, with an index of their members
pub record AreGroupsKept (rows : BTreeMap (List ℕ) Group) (users : Option (BTreeMap (OwnedKey (List ℕ) (List ℕ)) (Unit {0}))) : Type 0 where
  pub own : OwnKeys (λ (row : Group). row.name) (map_of name_cmp rows)
  pub told : TellsGroups (map_of name_cmp rows) users

-- roles under their names, with indexes of those that they name
pub record AreRolesKept (rows : BTreeMap (List ℕ) Role) (indexes : RoleIndexes) : Type 0 where
  pub own : OwnKeys (λ (row : Role). row.name) (map_of name_cmp rows)
  pub told : TellsRoles (map_of name_cmp rows) indexes

-- shares under their keys, with an index of their parties
pub record AreSharesKept (rows : BTreeMap ShareKey Share) (parties : BTreeMap (OwnedKey Party ShareKey) (Unit {0})) : Type 0 where
  pub own : OwnKeys (λ (row : Share). row.key) (map_of share_cmp rows)
  pub owned : IsIndex party_cmp share_cmp is_share_of (map_of share_cmp rows) (map_of (owned_cmp party_cmp share_cmp) parties)

pub data Kind : Type 0 where
  Users : Kind
  Groups : Kind
  Services : Kind
  Roles : Kind
  Tokens : Kind
  Servers : Kind
  Leases : Kind
  Shares : Kind
  Codes : Kind
  Clients : Kind
  GrantCodes : Kind
  Nexts : Kind

-- each row of the kind stands under its own key, those with a hash are found by it, tokens and shares by their owners and parties, and
-- groups and roles by their members
abbrev pub IsKept : Trees → Kind → Type 0
IsKept t Users = OwnKeys {R = name_cmp} (λ row. row.name) (map_of name_cmp t.users)
IsKept t Groups = AreGroupsKept t.groups t.group_users
IsKept t Services = OwnKeys {R = name_cmp} (λ row. row.name) (map_of name_cmp t.services)
IsKept t Roles = AreRolesKept t.roles t.role_indexes
IsKept t Tokens = AreTokensKept t.tokens t.token_ids t.token_owners
IsKept t Servers = OwnKeys {R = key_cmp} (λ row. row.key) (map_of key_cmp t.servers)
IsKept t Leases = OwnKeys {R = name_cmp} (λ row. row.target) (map_of name_cmp t.leases)
IsKept t Shares = AreSharesKept t.shares t.share_parties
IsKept t Codes = IsKeptByHash (λ row. row.id) (λ row. row.hash) t.codes t.code_ids
IsKept t Clients = OwnKeys {R = name_cmp} (λ row. row.id) (map_of name_cmp t.clients)
IsKept t GrantCodes = OwnKeys {R = name_cmp} (λ row. row.hash) (map_of name_cmp t.grant_codes)
IsKept t Nexts = OwnKeys {R = name_cmp} (λ row. row.name) (map_of name_cmp t.nexts)
