-- The table of actions: the place of each among the others, its text, and its direct subscopes. The places are in the
-- order of the texts' bytes. All custom actions share one place, between `admin:users` and `delete:groups`.
use Rattle.std.specs.Prelude.{ℕ, Bool, true, List, [], ◌∷◌, Option, Some, None, codes, nat_eq}
use Rattle.std.specs.Cmp.Lexicographic.{pointwise}
use Rattle.std.specs.List.{find}
use Rattle.scope_names.specs.Custom.{custom_read, is_custom_name}
use Rattle.scope_names.specs.declared.action.Action.{Action}
use Rattle.scope_names.specs.declared.action.Action.TheVariants.{AccessServers, AccessServices, AdminUi, AdminAuthState, AdminGroups}
use Rattle.scope_names.specs.declared.action.Action.TheVariants.{AdminRoles, AdminServerState, AdminServers, AdminServices, AdminUsers}
use Rattle.scope_names.specs.declared.action.Action.TheVariants.{Custom, DeleteGroups, DeleteServers, DeleteUsers, Groups, GroupsShares}
use Rattle.scope_names.specs.declared.action.Action.TheVariants.{ListGroups, ListServices, ListUsers, Proxy, ReadGroups, ReadGroupsName}
use Rattle.scope_names.specs.declared.action.Action.TheVariants.{ReadGroupsShares, ReadHub, ReadMetrics, ReadRoles, ReadRolesGroups}
use Rattle.scope_names.specs.declared.action.Action.TheVariants.{ReadRolesServices, ReadRolesUsers, ReadServers, ReadServices}
use Rattle.scope_names.specs.declared.action.Action.TheVariants.{ReadServicesName, ReadShares, ReadTokens, ReadUsers, ReadUsersActivity}
use Rattle.scope_names.specs.declared.action.Action.TheVariants.{ReadUsersGroups, ReadUsersName, ReadUsersShares, Servers, Shares, Shutdown}
use Rattle.scope_names.specs.declared.action.Action.TheVariants.{Tokens, Users, UsersActivity, UsersShares}

-- one row of the table
pub record Row : Type 0 where
  pub place : ℕ
  pub text : List ℕ
  pub subscopes : List Action

abbrev pub row : ℕ → List ℕ → List Action → Row
row place text subscopes = record { place = place; text = text; subscopes = subscopes }

abbrev pub row_of : Action → Row
row_of AccessServers = row 0 (codes "access:servers") []
row_of AccessServices = row 1 (codes "access:services") []
row_of AdminUi = row 2 (codes "admin-ui") []
row_of AdminAuthState = row 3 (codes "admin:auth_state") []
row_of AdminGroups = row 4 (codes "admin:groups") (DeleteGroups ∷ Groups ∷ ReadRolesGroups ∷ [])
row_of AdminRoles = row 5 (codes "admin:roles") []
row_of AdminServerState = row 6 (codes "admin:server_state") []
row_of AdminServers = row 7 (codes "admin:servers") (AdminServerState ∷ Servers ∷ [])
row_of AdminServices = row 8 (codes "admin:services") (ListServices ∷ ReadRolesServices ∷ ReadServices ∷ [])
row_of AdminUsers = row 9 (codes "admin:users") (AdminAuthState ∷ DeleteUsers ∷ ReadRolesUsers ∷ Users ∷ [])
row_of (Custom name) = row 10 name []
row_of DeleteGroups = row 11 (codes "delete:groups") []
row_of DeleteServers = row 12 (codes "delete:servers") []
row_of DeleteUsers = row 13 (codes "delete:users") []
row_of Groups = row 14 (codes "groups") (ListGroups ∷ ReadGroups ∷ [])
row_of GroupsShares = row 15 (codes "groups:shares") (ReadGroupsShares ∷ [])
row_of ListGroups = row 16 (codes "list:groups") (ReadGroupsName ∷ [])
row_of ListServices = row 17 (codes "list:services") (ReadServicesName ∷ [])
row_of ListUsers = row 18 (codes "list:users") (ReadUsersName ∷ [])
row_of Proxy = row 19 (codes "proxy") []
row_of ReadGroups = row 20 (codes "read:groups") (ReadGroupsName ∷ [])
row_of ReadGroupsName = row 21 (codes "read:groups:name") []
row_of ReadGroupsShares = row 22 (codes "read:groups:shares") []
row_of ReadHub = row 23 (codes "read:hub") []
row_of ReadMetrics = row 24 (codes "read:metrics") []
row_of ReadRoles = row 25 (codes "read:roles") (ReadRolesGroups ∷ ReadRolesServices ∷ ReadRolesUsers ∷ [])
row_of ReadRolesGroups = row 26 (codes "read:roles:groups") []
row_of ReadRolesServices = row 27 (codes "read:roles:services") []
row_of ReadRolesUsers = row 28 (codes "read:roles:users") []
row_of ReadServers = row 29 (codes "read:servers") (ReadUsersName ∷ [])
row_of ReadServices = row 30 (codes "read:services") (ReadServicesName ∷ [])
row_of ReadServicesName = row 31 (codes "read:services:name") []
row_of ReadShares = row 32 (codes "read:shares") []
row_of ReadTokens = row 33 (codes "read:tokens") []
row_of ReadUsers = row 34 (codes "read:users") (ReadUsersActivity ∷ ReadUsersGroups ∷ ReadUsersName ∷ [])
row_of ReadUsersActivity = row 35 (codes "read:users:activity") []
row_of ReadUsersGroups = row 36 (codes "read:users:groups") []
row_of ReadUsersName = row 37 (codes "read:users:name") []
row_of ReadUsersShares = row 38 (codes "read:users:shares") []
row_of Servers = row 39 (codes "servers") (DeleteServers ∷ ReadServers ∷ [])
row_of Shares = row 40 (codes "shares") (AccessServers ∷ GroupsShares ∷ ReadShares ∷ UsersShares ∷ [])
row_of Shutdown = row 41 (codes "shutdown") []
row_of Tokens = row 42 (codes "tokens") (ReadTokens ∷ [])
row_of Users = row 43 (codes "users") (ListUsers ∷ ReadUsers ∷ UsersActivity ∷ [])
row_of UsersActivity = row 44 (codes "users:activity") (ReadUsersActivity ∷ [])
row_of UsersShares = row 45 (codes "users:shares") (ReadUsersShares ∷ [])

abbrev pub place_of : Action → ℕ
place_of a = (row_of a).place

abbrev pub text_of : Action → List ℕ
text_of a = (row_of a).text

-- the name of a custom action, and nothing of the others
abbrev pub name_of : Action → List ℕ
name_of (Custom name) = name
name_of _ = []

-- the actions of the table, in order
unfoldable pub listed : List Action
listed = AccessServers ∷ AccessServices ∷ AdminUi ∷ AdminAuthState ∷ AdminGroups ∷ AdminRoles ∷ AdminServerState ∷ AdminServers ∷
    AdminServices ∷ AdminUsers ∷ DeleteGroups ∷ DeleteServers ∷ DeleteUsers ∷ Groups ∷ GroupsShares ∷ ListGroups ∷ ListServices ∷ ListUsers
    ∷ Proxy ∷ ReadGroups ∷ ReadGroupsName ∷ ReadGroupsShares ∷ ReadHub ∷ ReadMetrics ∷ ReadRoles ∷ ReadRolesGroups ∷ ReadRolesServices ∷
    ReadRolesUsers ∷ ReadServers ∷ ReadServices ∷ ReadServicesName ∷ ReadShares ∷ ReadTokens ∷ ReadUsers ∷ ReadUsersActivity ∷
    ReadUsersGroups ∷ ReadUsersName ∷ ReadUsersShares ∷ Servers ∷ Shares ∷ Shutdown ∷ Tokens ∷ Users ∷ UsersActivity ∷ UsersShares ∷ []

-- a program's custom actions have names of custom scopes
abbrev pub is_action : Action → Bool
is_action (Custom name) = is_custom_name name
is_action _ = true

-- the first of the actions that has the text
abbrev pub first_with : List ℕ → List Action → Option Action
first_with text actions = find (λ a. pointwise nat_eq (text_of a) text) actions

abbrev pub custom_or_none : Option (List ℕ) → Option Action
custom_or_none None = None
custom_or_none (Some name) = Some (Custom name)

abbrev pub or_custom : List ℕ → Option Action → Option Action
or_custom text (Some a) = Some a
or_custom text None = custom_or_none (custom_read text)

-- what reading an action gives
abbrev pub action_read : List ℕ → Option Action
action_read text = or_custom text (first_with text listed)
