use Rattle.std.proofs.Common.{◌≡◌, take, flat_map}
use Rattle.row_indexes.specs.Owned.{key_list}
use Rattle.row_indexes.proofs.owned.keys_in.Given as goal

abbrev pub invariant-loop-entry : goal.invariant-loop-entry
invariant-loop-entry g l = l.keys.items ≡ flat_map (λ entry. key_list entry.key) (take l.entry-index l.entries)
