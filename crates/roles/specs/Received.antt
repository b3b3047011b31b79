-- The scopes of a share that may be kept.
use Rattle.std.specs.Prelude.{List, [], Option, Some, None}
use Rattle.scope_filters.specs.declared.scope.RawScope.{RawScope}
use Rattle.hub_rows.specs.declared.records.Share.{Share}

-- The scopes of a share, or none where it isn't kept
abbrev pub share_scopes : Option Share → List RawScope
share_scopes None = []
share_scopes (Some share) = share.scopes
