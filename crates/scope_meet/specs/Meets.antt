-- One filter within another, and what two lists of groups have in common, and two grants.
use Rattle.std.specs.Prelude.{◌≡◌, ℕ, Bool, true, false, ◌&&◌, ◌||◌, List, [], ◌∷◌, map}
use Rattle.std.specs.List.{flat_map, list_any}
use Rattle.std.specs.Ordering.{is_eq}
use Rattle.hub_kit.specs.KeyOrder.{name_cmp}
use Rattle.scope_names.specs.declared.action.Action.{Action}
use Rattle.scope_names.specs.ActionOrder.{same_action}
use Rattle.scope_filters.specs.declared.object.Object.{Object}
use Rattle.scope_filters.specs.declared.filter.Filter.{Filter}
use Rattle.scope_filters.specs.declared.filter.Filter.TheVariants as Fi
use Rattle.scope_filters.specs.Admits.{reads_names, same_server, any_admits}
use Rattle.scope_filters.specs.Contexts.{Context, same, is_member}
use Rattle.scope_filters.specs.Grants.{Rights, grant_admits}

-- The second filter admits all that the first does, for the action a, where m has the members of the groups
abbrev pub within : Action → Context → Filter → Filter → Bool
within a m f Fi.All = true
within a m (Fi.User u) (Fi.User w) = same u w
within a m (Fi.Server k) (Fi.User u) = same k.user u
within a m (Fi.OwnerOf w) (Fi.User u) = same w u
within a m (Fi.User u) (Fi.Group g) = is_member m u g
within a m (Fi.Group g) (Fi.Group h) = same g h
within a m (Fi.Server k) (Fi.Group g) = is_member m k.user g
within a m (Fi.OwnerOf w) (Fi.Group g) = is_member m w g
within a m (Fi.Server k) (Fi.Server l) = same_server k l
within a m (Fi.OwnerOf w) (Fi.Server l) = reads_names a && same w l.user
within a m (Fi.Service v) (Fi.Service w) = same v w
within a m (Fi.OwnerOf u) (Fi.OwnerOf w) = same u w
within a m _ _ = false

-- ---- the groups among filters

-- The filter is one of a group
abbrev pub is_group : Filter → Bool
is_group (Fi.Group g) = true
is_group _ = false

-- The group that the filter names, if it is one of a group
abbrev pub group_names : Filter → List (List ℕ)
group_names (Fi.Group g) = g ∷ []
group_names _ = []

-- ---- what groups have in common

-- The name n is among the names
abbrev pub is_among : List (List ℕ) → List ℕ → Bool
is_among names n = list_any (λ k. is_eq (name_cmp k n)) names

-- The filters `met` admit exactly what a group among the filters gs and a group among hs both do, under any action
abbrev pub AreGroupMeets : Context → List Filter → List Filter → List Filter → Type 0
AreGroupMeets m gs hs met = (a : Action) (x : Object) → any_admits a m met x
    ≡ (any_admits a m (map Fi.Group (flat_map group_names gs)) x && any_admits a m (map Fi.Group (flat_map group_names hs)) x)

-- ---- what grants have in common

-- The grant `new` admits what `old` did, and under the action b what both the filters fs and the grant h do
abbrev pub IsMetUnder : Context → Action → List Filter → Rights → Rights → Rights → Type 0
IsMetUnder m b fs h old new = (a : Action) (x : Object)
    → grant_admits m new a x ≡ (grant_admits m old a x || (same_action a b && (any_admits b m fs x && grant_admits m h b x)))
