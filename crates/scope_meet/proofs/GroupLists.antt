-- The lists that the loops over groups make.
use Rattle.std.specs.Prelude.{ℕ, not, List, map}
use Rattle.std.specs.List.{filter}
use Rattle.scope_filters.specs.declared.filter.Filter.{Filter}
use Rattle.scope_filters.specs.declared.filter.Filter.TheVariants as Fi
use Rattle.scope_meet.specs.Meets.{is_group, is_among}

-- the groups among filters, and the others
abbrev pub groups_of : List Filter → List Filter
groups_of = filter is_group

abbrev pub others_of : List Filter → List Filter
others_of = filter (λ f. not (is_group f))

-- the groups that both lists have, and those that the first alone has
abbrev pub shared : List (List ℕ) → List (List ℕ) → List (List ℕ)
shared gs hs = filter (is_among hs) gs

abbrev pub apart : List (List ℕ) → List (List ℕ) → List (List ℕ)
apart gs hs = filter (λ g. not (is_among hs g)) gs

-- the members of groups who are among users, as filters
abbrev pub users_among : List (List ℕ) → List (List ℕ) → List Filter
users_among users members = map Fi.User (filter (is_among users) members)
