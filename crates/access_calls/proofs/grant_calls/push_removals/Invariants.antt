use Rattle.std.proofs.Common.{◌≡◌, ◌++◌, take, map}
use Rattle.hub_rows.specs.declared.changes.RowChange.TheVariants.{Remove}
use Rattle.hub_rows.specs.declared.rows.RowKey.TheVariants as RowKey
use Rattle.access_calls.proofs.grant_calls.push_removals.Given as goal

abbrev pub invariant-loop-hash : goal.invariant-loop-hash
invariant-loop-hash l = l.rows.items ≡ l.fn.rows.items ++ map (λ hash. Remove (RowKey.OAuthCode hash)) (take l.hash-index l.hashes)
