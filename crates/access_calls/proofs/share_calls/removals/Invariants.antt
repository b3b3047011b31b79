use Rattle.std.proofs.Common.{◌≡◌, take, map}
use Rattle.hub_rows.specs.declared.changes.RowChange.TheVariants.{Remove}
use Rattle.hub_rows.specs.declared.rows.RowKey.TheVariants as RowKey
use Rattle.access_calls.proofs.share_calls.removals.Given as goal

abbrev pub invariant-loop-key : goal.invariant-loop-key
invariant-loop-key l = l.rows.items ≡ map (λ key. Remove (RowKey.Share key)) (take l.key-index l.keys)
