-- Trees with no rows.
use Rattle.std.specs.Prelude.{◌≡◌, [], Option, Some, None}
use Rattle.std.specs.Ordering.{nat_cmp}
use Rattle.std.specs.BTreeMap.{BTreeMap, IsOrdered}
use Rattle.hub_tables.specs.declared.memberships.RoleIndexes.{RoleIndexes}
use Rattle.hub_tables.specs.declared.trees.Trees.{Trees}

-- an index with no entries, which wasn't given up
abbrev pub IsEmptyIndex : {K X : Type 0} → Option (BTreeMap K X) → Type 0
IsEmptyIndex None = ⊥
IsEmptyIndex (Some index) = index.entries ≡ []

pub record AreEmptyIndexes (indexes : RoleIndexes) : Type 0 where
  pub users : IsEmptyIndex indexes.users
  pub groups : IsEmptyIndex indexes.groups
  pub services : IsEmptyIndex indexes.services

pub record AreEmpty (t : Trees) : Type 0 where
  pub users : t.users.entries ≡ []
  pub groups : t.groups.entries ≡ []
  pub group_users : IsEmptyIndex t.group_users
  pub services : t.services.entries ≡ []
  pub roles : t.roles.entries ≡ []
  pub role_indexes : AreEmptyIndexes t.role_indexes
  pub tokens : t.tokens.entries ≡ []
  pub tokens_ordered : IsOrdered nat_cmp t.tokens
  pub token_ids : t.token_ids.entries ≡ []
  pub token_owners : t.token_owners.entries ≡ []
  pub servers : t.servers.entries ≡ []
  pub leases : t.leases.entries ≡ []
  pub shares : t.shares.entries ≡ []
  pub share_parties : t.share_parties.entries ≡ []
  pub codes : t.codes.entries ≡ []
  pub codes_ordered : IsOrdered nat_cmp t.codes
  pub code_ids : t.code_ids.entries ≡ []
  pub clients : t.clients.entries ≡ []
  pub grant_codes : t.grant_codes.entries ≡ []
  pub nexts : t.nexts.entries ≡ []
