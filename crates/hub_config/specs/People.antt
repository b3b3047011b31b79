-- The rows of a configuration, table by table. In each table the keys that are named here are known, and no others.
use Rattle.std.specs.Prelude.{ℕ, Bool, false, nat_le, List, [], ◌∷◌, length, codes, Option, Some, None, unwrap_or}
use Rattle.std.specs.Prelude.{Ok, Err, if◌then◌else◌}
use Rattle.std.specs.declared.cmp.Ordering.{Ordering}
use Rattle.toml.specs.Data.{Data}
use Rattle.hub_kit.specs.KeyOrder.{name_cmp}
use Rattle.keyed_rows.specs.Sorted.{in_order}
use Rattle.scope_names.specs.declared.custom.CustomRow.{CustomRow}
use Rattle.scope_filters.specs.declared.holder.Owner.{Owner}
use Rattle.scope_filters.specs.declared.holder.Owner.TheVariants.{User as OfUser, Service as OfService}
use Rattle.scope_filters.specs.declared.scope.RawScope.{RawScope}
use Rattle.scope_filters.specs.declared.scope.RawScope.TheVariants.{Inherit}
use Rattle.hub_rows.specs.declared.records.Group.{Group}
use Rattle.hub_rows.specs.declared.records.Role.{Role}
use Rattle.hub_opening.specs.declared.config.ConfigUser.{ConfigUser}
use Rattle.hub_opening.specs.declared.config.ConfigService.{ConfigService}
use Rattle.hub_opening.specs.declared.config.ConfigToken.{ConfigToken}
use Rattle.hub_config.specs.Settings.{pair, needed, optional, listed, table_with}
use Rattle.hub_config.specs.Forms.{flag, name, role_name, custom_name, scope, secret, redirect_uri}
use Rattle.hub_config.specs.Faults.{Read, broken, broken_at, map_ok, then_read}
use Rattle.hub_config.specs.declared.config_key.ConfigKey.{ConfigKey}
use Rattle.hub_config.specs.declared.config_key.ConfigKey.TheVariants as its
use Rattle.hub_config.specs.declared.fault.Rule.TheVariants as rule

abbrev pub few_scopes : List RawScope → Read (List RawScope)
few_scopes held = if nat_le (length held) 64 then Ok held else Err (broken_at its.Scopes rule.ManyScopes)

-- a list of at most 64 scopes
abbrev pub scopes : Data → Read (List RawScope)
scopes value = then_read few_scopes (listed scope its.Scopes value)

-- a list of names, in order and without repeats
abbrev pub sorted : {K : Type 0} → (K → K → Ordering) → (Data → Read K) → ConfigKey → Data → Read (List K)
sorted R reads key value = map_ok (in_order R) (listed reads key value)

-- ---- users and groups

abbrev pub user_from : List ℕ × Option Bool → ConfigUser
user_from (name, admin) = record { name = name; admin = unwrap_or admin false }

abbrev pub user_of : Data → Read ConfigUser
user_of value = table_with (codes "name" ∷ codes "admin" ∷ []) value
    (map_ok user_from (pair (needed name its.Name value) (optional flag its.Admin value)))

abbrev pub group_from : List ℕ × List (List ℕ) → Group
group_from (name, users) = record { name = name; users = users }

abbrev pub group_of : Data → Read Group
group_of value = table_with (codes "name" ∷ codes "users" ∷ []) value
    (map_ok group_from (pair (needed name its.Name value) (sorted name_cmp name its.Users value)))

-- ---- services

-- its redirect URI and its secret stand together
abbrev pub service_from : List ℕ × (Option (List ℕ) × Option (List ℕ)) → Read ConfigService
service_from (name, (None, None)) = Ok (record { name = name; redirect_uri = None; secret = None })
service_from (name, (Some uri, Some secret)) = Ok (record { name = name; redirect_uri = Some uri; secret = Some secret })
service_from (name, (None, Some secret)) = Err (broken_at its.RedirectUri (rule.StandsWith its.Secret))
service_from (name, (Some uri, None)) = Err (broken_at its.Secret (rule.StandsWith its.RedirectUri))

abbrev pub service_of : Data → Read ConfigService
service_of value = table_with (codes "name" ∷ codes "redirect_uri" ∷ codes "secret" ∷ codes "command" ∷ codes "target" ∷ []) value
    (then_read service_from
    (pair (needed name its.Name value)
    (pair (optional redirect_uri its.RedirectUri value) (optional secret its.Secret value))))

-- ---- roles

abbrev pub role_from : (List ℕ × List RawScope) × (List (List ℕ) × (List (List ℕ) × List (List ℕ))) → Role
role_from ((name, held), (users, (groups, services))) =
    record { name = name; groups = groups; scopes = held; services = services; users = users }

abbrev pub role_of : Data → Read Role
role_of value = table_with (codes "name" ∷ codes "scopes" ∷ codes "users" ∷ codes "groups" ∷ codes "services" ∷ []) value
    (map_ok role_from
    (pair (pair (needed role_name its.Name value) (scopes value))
    (pair (sorted name_cmp name its.Users value)
    (pair (sorted name_cmp name its.Groups value) (sorted name_cmp name its.Services value)))))

-- ---- tokens

-- its user or its service, and not both
abbrev pub owner_from : Option (List ℕ) × Option (List ℕ) → Read Owner
owner_from (Some user, None) = Ok (OfUser user)
owner_from (None, Some service) = Ok (OfService service)
owner_from (None, None) = Err (broken rule.OneOwner)
owner_from (Some user, Some service) = Err (broken rule.OneOwner)

abbrev pub owner : Data → Read Owner
owner value = then_read owner_from (pair (optional name its.User value) (optional name its.Service value))

-- a token without scopes has `inherit`
abbrev pub or_inherit : List RawScope → List RawScope
or_inherit [] = Inherit ∷ []
or_inherit (scope ∷ rest) = scope ∷ rest

abbrev pub token_from : List ℕ × (Owner × List RawScope) → ConfigToken
token_from (text, (holder, held)) = record { text = text; owner = holder; scopes = or_inherit held }

abbrev pub token_of : Data → Read ConfigToken
token_of value = table_with (codes "token" ∷ codes "user" ∷ codes "service" ∷ codes "scopes" ∷ []) value
    (map_ok token_from (pair (needed secret its.Token value) (pair (owner value) (scopes value))))

-- ---- custom scopes

abbrev pub custom_from : List ℕ × List (List ℕ) → CustomRow
custom_from (name, subscopes) = record { name = name; subscopes = subscopes }

abbrev pub custom_of : Data → Read CustomRow
custom_of value = table_with (codes "name" ∷ codes "subscopes" ∷ []) value
    (map_ok custom_from (pair (needed custom_name its.Name value) (listed custom_name its.Subscopes value)))
