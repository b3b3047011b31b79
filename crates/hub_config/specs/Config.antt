-- What bytes are read as a configuration: at most 1,048,576 of them, the text of one TOML table, read key by key.
use Rattle.std.specs.Prelude.{◌≡◌, ◌⊎◌, ℕ, true, false, nat_le, List, [], ◌∷◌, length, codes, Option, Some, None}
use Rattle.std.specs.Prelude.{Result, Ok, Err, ⊤, if◌then◌else◌}
use Rattle.std.specs.Str.{is_utf8}
use Rattle.toml.specs.Data.{Data, Members, table as table_of}
use Rattle.toml.specs.Parse.{parse_document}
use Rattle.scope_names.specs.declared.custom.CustomRow.{CustomRow}
use Rattle.hub_rows.specs.declared.limits.Limits.{Limits}
use Rattle.hub_rows.specs.declared.records.Group.{Group}
use Rattle.hub_rows.specs.declared.records.Role.{Role}
use Rattle.hub_opening.specs.Kept.{MakeTable}
use Rattle.hub_opening.specs.declared.config.ConfigUser.{ConfigUser}
use Rattle.hub_opening.specs.declared.config.ConfigService.{ConfigService}
use Rattle.hub_opening.specs.declared.config.ConfigToken.{ConfigToken}
use Rattle.hub_opening.specs.declared.config.HubConfig.{HubConfig}
use Rattle.hub_config.specs.declared.config.ConfigManaged.{ConfigManaged}
use Rattle.hub_config.specs.declared.config.FileConfig.{FileConfig}
use Rattle.hub_config.specs.declared.setting.ConfigError.{ConfigError}
use Rattle.hub_config.specs.declared.setting.ConfigError.TheVariants.{Refused, Memory}
use Rattle.hub_config.specs.declared.config_key.ConfigKey.TheVariants as its
use Rattle.hub_config.specs.declared.fault.Fault.{Fault}
use Rattle.hub_config.specs.declared.fault.Rule.TheVariants as rule
use Rattle.hub_config.specs.Faults.{Read, broken, broken_at, map_ok}
use Rattle.hub_config.specs.Settings.{pair, optional, listed, table_with}
use Rattle.hub_config.specs.Forms.{target, text}
use Rattle.hub_config.specs.Places.{pool, proxy, limits, listen}
use Rattle.hub_config.specs.People.{user_of, group_of, service_of, role_of, token_of, custom_of}
use Rattle.hub_config.specs.Managed.{managed, are_apart}
use Rattle.hub_config.specs.Custom.{undeclared}

-- ---- the hub

abbrev pub hub_from : (List (List ℕ) × (Option (List ℕ) × Limits))
    × ((List ConfigUser × (List Group × List ConfigService)) × (List Role × (List ConfigToken × List CustomRow))) → HubConfig
hub_from ((targets, (hub_url, limits)), ((users, (groups, services)), (roles, (tokens, custom_scopes)))) = record {
  pool = targets;
  hub_url = hub_url;
  limits = limits;
  no_trail = false;
  users = users;
  groups = groups;
  services = services;
  roles = roles;
  tokens = tokens;
  custom_scopes = custom_scopes;
}

abbrev pub hub : Data → Read HubConfig
hub value = map_ok hub_from
    (pair (pair (pool value) (pair (optional target its.HubUrl value) (limits value)))
    (pair (pair (listed user_of its.Users value)
    (pair (listed group_of its.Groups value) (listed service_of its.Services value)))
    (pair (listed role_of its.Roles value)
    (pair (listed token_of its.Tokens value) (listed custom_of its.CustomScopes value)))))

-- ---- the whole

abbrev pub known_keys : List (List ℕ)
known_keys =
    codes "listen" ∷ codes "pool" ∷ codes "command" ∷ codes "proxy_api" ∷ codes "proxy_secret" ∷ codes "hub_url" ∷ codes "limits"
    ∷ codes "users" ∷ codes "groups" ∷ codes "services" ∷ codes "roles" ∷ codes "tokens" ∷ codes "custom_scopes" ∷ []

abbrev pub file_from : ((Option (List ℕ) × (List (List ℕ) × Option (List ℕ × List ℕ))) × List ConfigManaged) × HubConfig → FileConfig
file_from (((listen, (command, proxy)), managed), hub) =
    record { hub = hub; managed = managed; listen = listen; command = command; proxy = proxy }

abbrev pub config_of : Data → Read FileConfig
config_of value = table_with known_keys value
    (map_ok file_from
    (pair (pair (pair (listen value) (pair (listed text its.Command value) (proxy value))) (managed value))
    (hub value)))

abbrev pub document_in : Option Members → Read FileConfig
document_in None = Err (broken rule.Toml)
document_in (Some members) = config_of (table_of members)

abbrev pub text_in : List ℕ → Read FileConfig
text_in bytes = if is_utf8 bytes then document_in (parse_document bytes) else Err (broken rule.Utf8)

abbrev pub config_in : List ℕ → Read FileConfig
config_in bytes = if nat_le (length bytes) 1048576 then text_in bytes else Err (broken rule.Size)

-- ---- rules between its parts

-- the declared custom scopes make a table, no others are used, and the services with a program are apart
pub record IsSound (c : FileConfig) : Type 0 where
  pub table : MakeTable c.hub.custom_scopes
  pub declared : undeclared c.hub.custom_scopes c.hub ≡ None
  pub apart : are_apart c.hub.pool c.managed ≡ true

-- the rule between its parts that it breaks, in the order in which they are looked at
abbrev pub Breaks : FileConfig → Fault → Type 0
Breaks c fault =
    ((are_apart c.hub.pool c.managed ≡ false) × (fault ≡ broken_at its.Services rule.Apart))
    ⊎ (((¬ (MakeTable c.hub.custom_scopes)) × (fault ≡ broken_at its.CustomScopes rule.CustomTable))
    ⊎ (undeclared c.hub.custom_scopes c.hub ≡ Some fault))

abbrev pub IsChecked : FileConfig → Result ⊤ ConfigError → Type 0
IsChecked c (Ok done) = IsSound c
IsChecked c (Err (Refused fault)) = Breaks c fault
IsChecked c (Err Memory) = ⊤

-- why the bytes are no configuration: the fault of what is read, or the rule between its parts
abbrev pub IsRefused : Read FileConfig → Fault → Type 0
IsRefused (Ok c) fault = Breaks c fault
IsRefused (Err found) fault = fault ≡ found

-- what reading a configuration answers
abbrev pub IsRead : List ℕ → Result FileConfig ConfigError → Type 0
IsRead bytes (Ok c) = (config_in bytes ≡ Ok c) × IsSound c
IsRead bytes (Err (Refused fault)) = IsRefused (config_in bytes) fault
IsRead bytes (Err Memory) = ⊤
