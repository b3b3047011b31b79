-- Who is in which group. A group that isn't kept has no members.
use Rattle.std.specs.Prelude.{ℕ, List, [], Option, Some, None}
use Rattle.std.specs.FinMap.{FinMap, get}
use Rattle.hub_kit.specs.KeyOrder.{name_cmp}
use Rattle.scope_filters.specs.Contexts.{Context}
use Rattle.hub_rows.specs.declared.records.Group.{Group}

abbrev pub users_of : Option Group → List (List ℕ)
users_of None = []
users_of (Some group) = group.users

abbrev pub members_of : FinMap name_cmp Group → Context
members_of groups name = users_of (get groups name)
