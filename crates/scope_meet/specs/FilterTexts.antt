-- Filters as texts, and their order. `OwnerOf` has no text, and counts here as no filter.
use Rattle.std.specs.Prelude.{ℕ, List, [], ◌++◌, codes, Option, Some, None}
use Rattle.std.specs.Ordering.{nat_cmp}
use Rattle.std.specs.declared.cmp.Ordering.{Ordering}
use Rattle.std.specs.declared.cmp.Ordering.TheVariants.{Equal}
use Rattle.hub_kit.specs.KeyOrder.{name_cmp}
use Rattle.hub_kit.specs.declared.names.ServerKey.{ServerKey}
use Rattle.scope_filters.specs.declared.filter.Filter.{Filter}
use Rattle.scope_filters.specs.declared.filter.Filter.TheVariants as Fi
use Rattle.scope_filters.specs.declared.scope.RawFilter.{RawFilter}
use Rattle.scope_filters.specs.declared.scope.RawFilter.TheVariants as Raw
use Rattle.scope_filters.specs.Scopes.{filter_text}

-- a filter as a scope is written with it
abbrev pub written : Filter → RawFilter
written Fi.All = Raw.Unfiltered
written (Fi.User u) = Raw.User u
written (Fi.Group g) = Raw.Group g
written (Fi.Server k) = Raw.Server k
written (Fi.Service v) = Raw.Service v
written (Fi.OwnerOf u) = Raw.Unfiltered

-- by the bytes of the texts
abbrev pub text_cmp : Filter → Filter → Ordering
text_cmp f g = name_cmp (filter_text (written f)) (filter_text (written g))

-- ---- the same, by parts

-- The text of a server's key
abbrev pub key_text : ServerKey → List ℕ
key_text k = k.user ++ codes "/" ++ k.server

-- What stands before the value in a filter's text
abbrev pub kind_text : Filter → List ℕ
kind_text Fi.All = []
kind_text (Fi.User u) = codes "!user="
kind_text (Fi.Group g) = codes "!group="
kind_text (Fi.Server k) = codes "!server="
kind_text (Fi.Service v) = codes "!service="
kind_text (Fi.OwnerOf u) = []

-- The order of two filters of one kind by their values; of two kinds it says nothing
abbrev pub value_cmp : Filter → Filter → Ordering
value_cmp (Fi.User u) (Fi.User w) = name_cmp u w
value_cmp (Fi.Group u) (Fi.Group w) = name_cmp u w
value_cmp (Fi.Server k) (Fi.Server l) = name_cmp (key_text k) (key_text l)
value_cmp (Fi.Service u) (Fi.Service w) = name_cmp u w
value_cmp _ _ = Equal

-- the next bytes of two users' names, of which one begins the other, or the names of the servers
abbrev pub end_cmp : Option ℕ → Option ℕ → List ℕ → List ℕ → Ordering
end_cmp None None s t = name_cmp s t
end_cmp None (Some b) s t = nat_cmp 47 b
end_cmp (Some a) None s t = nat_cmp a 47
end_cmp (Some a) (Some b) s t = nat_cmp a b
