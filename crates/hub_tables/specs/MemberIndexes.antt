-- What the indexes of groups and roles tell.
use Rattle.std.specs.Prelude.{ℕ, List, Option}
use Rattle.std.specs.FinMap.{FinMap}
use Rattle.std.specs.BTreeMap.{BTreeMap}
use Rattle.hub_kit.specs.KeyOrder.{name_cmp}
use Rattle.row_indexes.specs.declared.owned.OwnedKey.{OwnedKey}
use Rattle.row_indexes.specs.Members.{TellsMembers}
use Rattle.hub_rows.specs.declared.records.Group.{Group}
use Rattle.hub_rows.specs.declared.records.Role.{Role}
use Rattle.hub_tables.specs.declared.memberships.RoleIndexes.{RoleIndexes}

-- the groups of each user
abbrev pub TellsGroups : FinMap name_cmp Group → Option (BTreeMap (OwnedKey (List ℕ) (List ℕ)) (Unit {0})) → Type 0
TellsGroups rows users = TellsMembers name_cmp name_cmp (λ (g : Group). g.users) rows users

-- the roles that name each user, group and service
pub record TellsRoles (rows : FinMap name_cmp Role) (indexes : RoleIndexes) : Type 0 where
  pub users : TellsMembers name_cmp name_cmp (λ (r : Role). r.users) rows indexes.users
  pub groups : TellsMembers name_cmp name_cmp (λ (r : Role). r.groups) rows indexes.groups
  pub services : TellsMembers name_cmp name_cmp (λ (r : Role). r.services) rows indexes.services
