-- The order of actions: by their places, and custom ones by their names. It is the order of their texts.
use Rattle.std.specs.Prelude.{◌≡◌, ℕ, Bool, List, [], ◌∷◌}
use Rattle.std.proofs.Common.{refl, ap, sym, ◌∙◌, get_or}
use Rattle.std.specs.Cmp.{IsTotalOrder, on_total}
use Rattle.std.specs.Cmp.Lexicographic.{nat_list_cmp_total}
use Rattle.std.specs.Ordering.{eq_by_cmp}
use Rattle.std.specs.FinMap.{IsAntisymmetric}
use Rattle.std.proofs.lemmas.Map.Lookups.{exact_bytes}
use Rattle.std.specs.declared.cmp.Ordering.{Ordering}
use Rattle.hub_kit.specs.KeyOrder.{name_cmp}
use Rattle.scope_names.specs.declared.action.Action.{Action}
use Rattle.scope_names.specs.declared.action.Action.TheVariants.{AccessServers, AccessServices, AdminUi, AdminAuthState, AdminGroups}
use Rattle.scope_names.specs.declared.action.Action.TheVariants.{AdminRoles, AdminServerState, AdminServers, AdminServices, AdminUsers}
use Rattle.scope_names.specs.declared.action.Action.TheVariants.{Custom, DeleteGroups, DeleteServers, DeleteUsers, Groups, GroupsShares}
use Rattle.scope_names.specs.declared.action.Action.TheVariants.{ListGroups, ListServices, ListUsers, Proxy, ReadGroups, ReadGroupsName}
use Rattle.scope_names.specs.declared.action.Action.TheVariants.{ReadGroupsShares, ReadHub, ReadMetrics, ReadRoles, ReadRolesGroups}
use Rattle.scope_names.specs.declared.action.Action.TheVariants.{ReadRolesServices, ReadRolesUsers, ReadServers, ReadServices}
use Rattle.scope_names.specs.declared.action.Action.TheVariants.{ReadServicesName, ReadShares, ReadTokens, ReadUsers, ReadUsersActivity}
use Rattle.scope_names.specs.declared.action.Action.TheVariants.{ReadUsersGroups, ReadUsersName, ReadUsersShares, Servers, Shares, Shutdown}
use Rattle.scope_names.specs.declared.action.Action.TheVariants.{Tokens, Users, UsersActivity, UsersShares}
use Rattle.scope_names.specs.Actions.{place_of, name_of}

-- What tells an action from every other: its place in the table, and the name of a custom one
abbrev pub rank : Action → List ℕ
rank a = place_of a ∷ name_of a

-- The order of actions: by their ranks
abbrev pub action_cmp : Action → Action → Ordering
action_cmp a b = name_cmp (rank a) (rank b)

-- The two actions are one
abbrev pub same_action : Action → Action → Bool
same_action = eq_by_cmp action_cmp

-- the order is total: the proof of laws of the comparisons, which stands here since a source cites only what stands in specs/
pub actions_total : IsTotalOrder action_cmp
actions_total = on_total rank nat_list_cmp_total

-- ---- no two actions have one rank: the proof of a law of `Key`, which stands here for the same reason

-- all actions, at their places
placed : List ℕ → List Action
placed name = AccessServers ∷ AccessServices ∷ AdminUi ∷ AdminAuthState ∷ AdminGroups ∷ AdminRoles ∷ AdminServerState ∷ AdminServers ∷
    AdminServices ∷ AdminUsers ∷ Custom name ∷ DeleteGroups ∷ DeleteServers ∷ DeleteUsers ∷ Groups ∷ GroupsShares ∷ ListGroups ∷
    ListServices ∷ ListUsers ∷ Proxy ∷ ReadGroups ∷ ReadGroupsName ∷ ReadGroupsShares ∷ ReadHub ∷ ReadMetrics ∷ ReadRoles ∷ ReadRolesGroups
    ∷ ReadRolesServices ∷ ReadRolesUsers ∷ ReadServers ∷ ReadServices ∷ ReadServicesName ∷ ReadShares ∷ ReadTokens ∷ ReadUsers ∷
    ReadUsersActivity ∷ ReadUsersGroups ∷ ReadUsersName ∷ ReadUsersShares ∷ Servers ∷ Shares ∷ Shutdown ∷ Tokens ∷ Users ∷ UsersActivity ∷
    UsersShares ∷ []

-- the action of a rank
unranked : List ℕ → Action
unranked [] = AccessServers
unranked (place ∷ name) = get_or (placed name) place AccessServers

unranked-rank : (a : Action) → unranked (rank a) ≡ a
unfolding unranked placed
unranked-rank (Custom name) = refl
unranked-rank _ = refl

pub actions_exact : IsAntisymmetric action_cmp
actions_exact a b h = sym (unranked-rank a) ∙ ap unranked (exact_bytes (rank a) (rank b) h) ∙ unranked-rank b
