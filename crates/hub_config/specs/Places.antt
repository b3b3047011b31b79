-- The places and the limits of a configuration.
use Rattle.std.specs.Prelude.{ℕ, Bool, ◌&&◌, nat_le, List, [], ◌∷◌, length, codes, Option, Some, None, unwrap_or}
use Rattle.std.specs.Prelude.{Ok, Err, if◌then◌else◌}
use Rattle.toml.specs.Data.{Data}
use Rattle.server_life.specs.Pools.{are_distinct}
use Rattle.hub_rows.specs.declared.limits.Limits.{Limits}
use Rattle.hub_opening.specs.Opening.{greatest_limits}
use Rattle.hub_config.specs.Settings.{pair, optional, listed, limit, table_with}
use Rattle.hub_config.specs.Forms.{target, secret, address}
use Rattle.hub_config.specs.Faults.{Read, broken_at, by_rule, map_ok, then_read, at_key}
use Rattle.hub_config.specs.declared.config_key.ConfigKey.TheVariants as its
use Rattle.hub_config.specs.declared.fault.Rule.TheVariants as rule

-- ---- places

abbrev pub is_pool : List (List ℕ) → Bool
is_pool targets = nat_le (length targets) 1000 && are_distinct targets

abbrev pub pool_from : List (List ℕ) → Option (List (List ℕ))
pool_from targets = if is_pool targets then Some targets else None

abbrev pub pool_of : List (List ℕ) → Read (List (List ℕ))
pool_of targets = at_key its.Pool (by_rule rule.Pool (pool_from targets))

-- at most 1,000 targets, all distinct
abbrev pub pool : Data → Read (List (List ℕ))
pool value = then_read pool_of (listed target its.Pool value)

abbrev pub proxy_from : Option (List ℕ) × Option (List ℕ) → Read (Option (List ℕ × List ℕ))
proxy_from (None, None) = Ok None
proxy_from (Some api, Some secret) = Ok (Some (api, secret))
proxy_from (None, Some secret) = Err (broken_at its.ProxyApi (rule.StandsWith its.ProxySecret))
proxy_from (Some api, None) = Err (broken_at its.ProxySecret (rule.StandsWith its.ProxyApi))

-- the target and the secret of the proxy's interface, which stand together
abbrev pub proxy : Data → Read (Option (List ℕ × List ℕ))
proxy value = then_read proxy_from (pair (optional target its.ProxyApi value) (optional secret its.ProxySecret value))

abbrev pub listen : Data → Read (Option (List ℕ))
listen value = optional address its.Listen value

-- ---- limits

abbrev pub limit_keys : List (List ℕ)
limit_keys =
    codes "users" ∷ codes "groups" ∷ codes "services" ∷ codes "roles"
    ∷ codes "servers" ∷ codes "tokens" ∷ codes "shares" ∷ codes "codes" ∷ codes "trail_bytes" ∷ []

abbrev pub limits_from : (ℕ × (ℕ × ℕ)) × ((ℕ × (ℕ × ℕ)) × (ℕ × (ℕ × ℕ))) → Limits
limits_from ((users, (groups, services)), ((roles, (servers, tokens)), (shares, (share_codes, trail_bytes)))) = record {
  users = users;
  groups = groups;
  services = services;
  roles = roles;
  servers = servers;
  tokens = tokens;
  shares = shares;
  codes = share_codes;
  trail_bytes = trail_bytes;
}

-- each a whole number from 0 to the greatest, which it is where the key lacks
abbrev pub limits_of : Data → Read Limits
limits_of value = table_with limit_keys value
    (map_ok limits_from
    (pair (pair (limit 100000 its.Users value) (pair (limit 10000 its.Groups value) (limit 1000 its.Services value)))
    (pair (pair (limit 1000 its.Roles value) (pair (limit 100 its.Servers value) (limit 1000000 its.Tokens value)))
    (pair (limit 100000 its.Shares value)
    (pair (limit 100000 its.Codes value) (limit 1073741824 its.TrailBytes value))))))

-- the greatest, where the key lacks
abbrev pub limits : Data → Read Limits
limits value = map_ok (λ given. unwrap_or given greatest_limits) (optional limits_of its.Limits value)
