use Rattle.std.proofs.Common.{◌≡◌, ◌++◌, take, map}
use Rattle.hub_rows.specs.declared.changes.RowChange.TheVariants.{Remove}
use Rattle.hub_rows.specs.declared.rows.RowKey.TheVariants as RowKey
use Rattle.access_calls.proofs.code_calls.push_removals.Given as goal

abbrev pub invariant-loop-id : goal.invariant-loop-id
invariant-loop-id l = l.rows.items ≡ l.fn.rows.items ++ map (λ id. Remove (RowKey.ShareCode id)) (take l.id-index l.ids)
