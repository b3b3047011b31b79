use Rattle.std.proofs.Common.{◌≡◌, ℕ, Bool, ◌++◌, drop}
use Rattle.std.specs.FinMap.{get}
use Rattle.std.specs.List.{filter}
use Rattle.std.specs.Ordering.{nat_cmp}
use Rattle.keyed_rows.specs.Rows.{map_of, is_kept_and}
use Rattle.hub_tables.specs.Parties.{is_over_token_of, of_owner}
use Rattle.hub_tables.proofs.owned.own_ids_over.Given as goal

abbrev pub invariant-loop-id : goal.invariant-loop-id
invariant-loop-id l =
    let is_own : ℕ → Bool = λ id. is_kept_and (is_over_token_of (of_owner l.owner) l.now) (get (map_of nat_cmp l.rows) id) in
    l.over.items ++ filter is_own (drop l.id-index l.ids) ≡ filter is_own l.ids
