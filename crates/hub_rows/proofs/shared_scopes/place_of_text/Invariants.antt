use Rattle.std.proofs.Common.{◌≡◌}
use Rattle.keyed_rows.specs.Sorted.{with_key}
use Rattle.hub_rows.specs.SharedScopes.{scope_cmp}
use Rattle.hub_rows.proofs.Places.{put_from}
use Rattle.hub_rows.proofs.shared_scopes.place_of_text.Given as goal

-- the scope comes after those so far
abbrev pub invariant-loop-at : goal.invariant-loop-at
invariant-loop-at l = put_from l.scope l.scopes l.at ≡ with_key scope_cmp l.scope l.scopes
