use Rattle.std.proofs.Common.{◌≡◌, ◌++◌, take, map}
use Rattle.hub_rows.specs.declared.changes.RowChange.TheVariants.{Remove}
use Rattle.hub_rows.specs.declared.rows.RowKey.TheVariants as RowKey
use Rattle.admin_rules.proofs.purges.remove_servers.Given as goal

abbrev pub invariant-loop-key : goal.invariant-loop-key
invariant-loop-key l = l.changes.items ≡ l.fn.changes.items ++ map (λ key. Remove (RowKey.ServerRow key)) (take l.key-index l.key-items)
