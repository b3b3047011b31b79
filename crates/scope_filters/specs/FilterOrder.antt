-- The order of filters, and that filters which compare alike are one.
use Rattle.std.proofs.Common.{refl, ap}
use Rattle.std.specs.declared.cmp.Ordering.{Ordering}
use Rattle.std.specs.FinMap.{IsAntisymmetric, nat_cmp-IsAntisymmetric, slice_cmp-IsAntisymmetric}
use Rattle.hub_kit.specs.KeyOrder.{name_cmp, key_exact}
use Rattle.scope_filters.specs.declared.filter.Filter.{Filter}
use Rattle.scope_filters.specs.declared.filter.Filter.TheVariants as Fi
use Rattle.scope_filters.specs.contracts.filter.FilterOrd.TheImpl as filter

-- The order of filters: by the kind, and then by the name
abbrev pub filter_cmp : Filter → Filter → Ordering
filter_cmp = filter.ghosts.cmp

-- ---- filters that compare alike are one: the proof of a law of `Key`, which stands here since a source cites only what stands in specs/

names_exact : IsAntisymmetric name_cmp
names_exact = slice_cmp-IsAntisymmetric nat_cmp-IsAntisymmetric

pub filter_exact : IsAntisymmetric filter_cmp
filter_exact Fi.All Fi.All h = refl
filter_exact (Fi.User u) (Fi.User w) h = ap Fi.User (names_exact u w h)
filter_exact (Fi.Group u) (Fi.Group w) h = ap Fi.Group (names_exact u w h)
filter_exact (Fi.Server u) (Fi.Server w) h = ap Fi.Server (key_exact u w h)
filter_exact (Fi.Service u) (Fi.Service w) h = ap Fi.Service (names_exact u w h)
filter_exact (Fi.OwnerOf u) (Fi.OwnerOf w) h = ap Fi.OwnerOf (names_exact u w h)
filter_exact _ _ h = cc
