use Rattle.std.proofs.Common.{◌≡◌, drop}
use Rattle.hub_config.specs.Custom.{first_fault, scope_fault}
use Rattle.hub_config.proofs.custom.scopes_fault.Given as goal

abbrev pub invariant-loop-n : goal.invariant-loop-n
invariant-loop-n l = first_fault (scope_fault l.fn.table) l.n (drop l.n l.fn.scopes) ≡ first_fault (scope_fault l.fn.table) 0 l.fn.scopes
