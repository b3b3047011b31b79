-- The names in a filter are names.
use Rattle.hub_kit.specs.Names.{IsName, IsServerName}
use Rattle.scope_filters.specs.declared.scope.RawFilter.{RawFilter}
use Rattle.scope_filters.specs.declared.scope.RawFilter.TheVariants as Raw

-- What stands for a name in a filter, as it is written, is one
abbrev pub IsFilterName : RawFilter → Type 0
IsFilterName (Raw.User user) = IsName user
IsFilterName (Raw.Group group) = IsName group
IsFilterName (Raw.Server key) = IsName key.user × IsServerName key.server
IsFilterName (Raw.Service service) = IsName service
IsFilterName _ = Unit {0}
