use Rattle.std.proofs.Common.{◌≡◌, drop}
use Rattle.hub_config.specs.Custom.{first_fault, scopes_fault}
use Rattle.hub_config.proofs.custom.tokens_fault.Given as goal

abbrev pub invariant-loop-n : goal.invariant-loop-n
invariant-loop-n l =
    first_fault (λ token. scopes_fault l.fn.table token.scopes) l.n (drop l.n l.fn.tokens) ≡ first_fault (λ token. scopes_fault l.fn.table token.scopes) 0 l.fn.tokens
