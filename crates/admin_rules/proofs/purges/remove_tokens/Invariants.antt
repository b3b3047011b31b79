use Rattle.std.proofs.Common.{◌≡◌, ◌++◌, take, map}
use Rattle.hub_rows.specs.declared.changes.RowChange.TheVariants.{Remove}
use Rattle.hub_rows.specs.declared.rows.RowKey.TheVariants as RowKey
use Rattle.admin_rules.proofs.purges.remove_tokens.Given as goal

abbrev pub invariant-loop-id : goal.invariant-loop-id
invariant-loop-id l = l.changes.items ≡ l.fn.changes.items ++ map (λ id. Remove (RowKey.Token id)) (take l.id-index l.id-items)
