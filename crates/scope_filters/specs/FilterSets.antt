-- How a set of filters lies: its least filter beside a tree of the others.
use Rattle.std.specs.Prelude.{◌≡◌, List, [], ◌∷◌, Option, Some, None}
use Rattle.std.specs.BTreeMap.{BTreeMap}
use Rattle.std.specs.FinMap.{insert}
use Rattle.std.specs.FinSet.{FinSet}
use Rattle.std.specs.List.Sorted.{IsStrictlySortedBy}
use Rattle.keyed_rows.specs.Rows.{map_of}
use Rattle.scope_filters.specs.declared.filter.Filter.{Filter}
use Rattle.scope_filters.specs.FilterOrder.{filter_cmp}

-- The set of filters that lies as one in front, if it is there, and a tree of the others
abbrev pub set_of : Option Filter → BTreeMap Filter (Unit {0}) → FinSet filter_cmp
set_of None others = map_of filter_cmp others
set_of (Some first) others = insert (map_of filter_cmp others) first tt

-- the one that may be there, and then the others
abbrev pub in_front : Option Filter → List Filter → List Filter
in_front None others = others
in_front (Some first) others = first ∷ others

-- the first stands before all others, and without a first there are none
abbrev pub IsInOrder : Option Filter → List Filter → Type 0
IsInOrder None others = others ≡ []
IsInOrder (Some first) others = IsStrictlySortedBy filter_cmp (first ∷ others)
