use Rattle.std.proofs.Common.{◌≡◌, ◌++◌, drop}
use Rattle.std.specs.FinMap as map
use Rattle.std.specs.List.{filter}
use Rattle.keyed_rows.specs.Rows.{map_of}
use Rattle.hub_view.proofs.page_part.kept_among.Given as goal

abbrev pub invariant-loop-name : goal.invariant-loop-name
invariant-loop-name g l =
    let is_kept = map.contains_key (map_of g.K.Ord.cmp l.rows) in
    l.kept.items ++ filter is_kept (drop l.name-index l.names) ≡ filter is_kept l.names
