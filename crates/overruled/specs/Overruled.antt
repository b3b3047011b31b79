-- Which kept rows overrule what a configuration says: those of groups and users, which stay as they are.
use Rattle.std.specs.Prelude.{ℕ, ◌==◌, Bool, false, not, ◌&&◌, List, [], ◌∷◌, length, bytes_eq, Option, Some, None, if◌then◌else◌}
use Rattle.std.specs.List.{list_all, list_any}
use Rattle.hub_kit.specs.KeyOrder.{name_cmp}
use Rattle.keyed_rows.specs.Sorted.{is_among}
use Rattle.hub_rows.specs.declared.records.Group.{Group}
use Rattle.hub_rows.specs.declared.records.User.{User}
use Rattle.hub_rows.specs.declared.rows.Row.{Row}
use Rattle.hub_rows.specs.declared.rows.Row.TheVariants as row
use Rattle.hub_opening.specs.declared.config.ConfigUser.{ConfigUser}
use Rattle.overruled.specs.declared.kept.Overruled.{Overruled}
use Rattle.overruled.specs.declared.kept.Overruled.TheVariants.{Members, Admin}

-- each of these names is among the others
abbrev pub are_among : (names others : List (List ℕ)) → Bool
are_among names others = list_all (λ name. is_among name_cmp name others) names

-- as many names, and each of one is among the other
abbrev pub are_same : (one other : List (List ℕ)) → Bool
are_same one other = (length one == length other) && are_among one other

-- the first configured group of this name has other members
abbrev pub other_members : List Group → Group → Bool
other_members [] kept = false
other_members (group ∷ groups) kept =
    if bytes_eq group.name kept.name then not (are_same group.users kept.users) else other_members groups kept

abbrev pub is_named : List ConfigUser → List ℕ → Bool
is_named users name = list_any (λ user. bytes_eq user.name name) users

abbrev pub is_named_admin : List ConfigUser → List ℕ → Bool
is_named_admin users name = list_any (λ user. bytes_eq user.name name && user.admin) users

-- a kept admin who is configured, and nowhere as an admin
abbrev pub stays_admin : List ConfigUser → User → Bool
stays_admin users kept = kept.admin && is_named users kept.name && not (is_named_admin users kept.name)

abbrev pub of_group : List Group → Group → Option Overruled
of_group groups kept = if other_members groups kept then Some (Members kept.name) else None

abbrev pub of_user : List ConfigUser → User → Option Overruled
of_user users kept = if stays_admin users kept then Some (Admin kept.name) else None

-- what of the configured users and groups the row overrules
abbrev pub told_of : List ConfigUser → List Group → Row → Option Overruled
told_of users groups (row.Group group) = of_group groups group
told_of users groups (row.User user) = of_user users user
told_of users groups other = None
