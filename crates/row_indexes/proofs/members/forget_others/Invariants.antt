use Rattle.std.proofs.Common.{◌≡◌, ◌&&◌, not, take}
use Rattle.std.specs.FinMap as map
use Rattle.std.specs.Ordering.{eq_by_cmp}
use Rattle.keyed_rows.specs.Rows.{map_of}
use Rattle.keyed_rows.specs.Sorted.{is_among}
use Rattle.row_indexes.specs.Owned.{owned_cmp, under}
use Rattle.row_indexes.proofs.members.forget_others.Given as goal

abbrev pub invariant-loop-member : goal.invariant-loop-member
invariant-loop-member g l = (m : _) (k : _) → map.contains_key (map_of (owned_cmp g.M.Ord.cmp g.K.Ord.cmp) l.entries) (under m k)
    ≡ (not ((is_among g.M.Ord.cmp m (take l.member-index l.members) && not (is_among g.M.Ord.cmp m l.kept)) && eq_by_cmp g.K.Ord.cmp k l.key)
    && map.contains_key (map_of (owned_cmp g.M.Ord.cmp g.K.Ord.cmp) l.fn.entries) (under m k))
