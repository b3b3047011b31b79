use Rattle.std.proofs.Common.{◌≡◌, ◌++◌, take, flat_map}
use Rattle.std.specs.FinMap.{get}
use Rattle.roles.specs.Naming.{role_scopes}
use Rattle.roles.proofs.held.push_named.Given as goal

abbrev pub invariant-loop-name : goal.invariant-loop-name
invariant-loop-name l = l.scopes.items ≡ l.fn.scopes.items ++ flat_map (λ name. role_scopes (get l.t.roles name)) (take l.name-index l.names)
