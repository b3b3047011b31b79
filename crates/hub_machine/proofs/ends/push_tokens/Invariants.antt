use Rattle.std.proofs.Common.{◌≡◌, ◌++◌, drop, map}
use Rattle.std.specs.List.{filter}
use Rattle.std.specs.FinMap.{get}
use Rattle.hub_rows.specs.declared.changes.RowChange.TheVariants.{Remove}
use Rattle.hub_rows.specs.declared.rows.RowKey.TheVariants as RowKey
use Rattle.hub_machine.specs.Apply.{is_start_token}
use Rattle.hub_machine.proofs.ends.push_tokens.Given as goal

abbrev pub invariant-loop-id : goal.invariant-loop-id
invariant-loop-id l = l.rows.items ++ map (λ id. Remove (RowKey.Token id)) (filter (λ id. is_start_token l.key (get l.tables.tokens id)) (drop l.id-index l.id-items))
    ≡ l.initial.rows.items ++ map (λ id. Remove (RowKey.Token id)) (filter (λ id. is_start_token l.key (get l.tables.tokens id)) l.id-items)
