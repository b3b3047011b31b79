-- The names that a filter names: exactly those of the objects that it admits, but that a filter without names admits every object.
use Rattle.std.specs.Prelude.{ℕ, Bool, true, false, List, [], ◌∷◌, if◌then◌else◌}
use Rattle.scope_names.specs.declared.action.Action.{Action}
use Rattle.scope_filters.specs.declared.filter.Filter.{Filter}
use Rattle.scope_filters.specs.declared.filter.Filter.TheVariants as Fi
use Rattle.scope_filters.specs.Admits.{reads_names}
use Rattle.scope_filters.specs.Contexts.{Context}

-- the filter without names, which admits every object
abbrev pub is_all : Filter → Bool
is_all Fi.All = true
is_all _ = false

-- the users whom it names, the members of its group, and a server's user where names of users may be read
abbrev pub users_named : Action → Context → Filter → List (List ℕ)
users_named a m (Fi.User u) = u ∷ []
users_named a m (Fi.Group g) = m g
users_named a m (Fi.Server k) = if reads_names a then k.user ∷ [] else []
users_named a m (Fi.OwnerOf u) = u ∷ []
users_named a m _ = []

-- The group that the filter names, if it is one of a group
abbrev pub groups_named : Action → Context → Filter → List (List ℕ)
groups_named a m (Fi.Group g) = g ∷ []
groups_named a m _ = []

-- The service that the filter names, if it is one of a service
abbrev pub services_named : Action → Context → Filter → List (List ℕ)
services_named a m (Fi.Service v) = v ∷ []
services_named a m _ = []
