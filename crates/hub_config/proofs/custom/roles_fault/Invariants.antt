use Rattle.std.proofs.Common.{◌≡◌, drop}
use Rattle.hub_config.specs.Custom.{first_fault, scopes_fault}
use Rattle.hub_config.proofs.custom.roles_fault.Given as goal

abbrev pub invariant-loop-n : goal.invariant-loop-n
invariant-loop-n l =
    first_fault (λ role. scopes_fault l.fn.table role.scopes) l.n (drop l.n l.fn.roles) ≡ first_fault (λ role. scopes_fault l.fn.table role.scopes) 0 l.fn.roles
