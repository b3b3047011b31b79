-- The keys of a file of configuration, as they stand in it.
use Rattle.std.specs.Prelude.{ℕ, List, codes}
use Rattle.hub_config.specs.declared.config_key.ConfigKey.{ConfigKey}
use Rattle.hub_config.specs.declared.config_key.ConfigKey.TheVariants as its

abbrev pub text_of : ConfigKey → List ℕ
text_of its.Admin = codes "admin"
text_of its.Codes = codes "codes"
text_of its.Command = codes "command"
text_of its.CustomScopes = codes "custom_scopes"
text_of its.Groups = codes "groups"
text_of its.HubUrl = codes "hub_url"
text_of its.Limits = codes "limits"
text_of its.Listen = codes "listen"
text_of its.Name = codes "name"
text_of its.Pool = codes "pool"
text_of its.ProxyApi = codes "proxy_api"
text_of its.ProxySecret = codes "proxy_secret"
text_of its.RedirectUri = codes "redirect_uri"
text_of its.Roles = codes "roles"
text_of its.Scopes = codes "scopes"
text_of its.Secret = codes "secret"
text_of its.Servers = codes "servers"
text_of its.Service = codes "service"
text_of its.Services = codes "services"
text_of its.Shares = codes "shares"
text_of its.Subscopes = codes "subscopes"
text_of its.Target = codes "target"
text_of its.Token = codes "token"
text_of its.Tokens = codes "tokens"
text_of its.TrailBytes = codes "trail_bytes"
text_of its.User = codes "user"
text_of its.Users = codes "users"
