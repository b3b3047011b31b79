use Rattle.std.proofs.Common.{◌≡◌, ◌++◌, take, flat_map}
use Rattle.std.specs.FinMap.{get}
use Rattle.roles.specs.Received.{share_scopes}
use Rattle.roles.proofs.received.push_scopes.Given as goal

abbrev pub invariant-loop-key : goal.invariant-loop-key
invariant-loop-key l = l.scopes.items ≡ l.fn.scopes.items ++ flat_map (λ key. share_scopes (get l.t.shares key)) (take l.key-index l.keys)
