-- Lists of scopes.
use Rattle.std.specs.Prelude.{ℕ, ◌+◌, List, [], ◌∷◌, Result, Ok, Err}
use Rattle.scope_filters.specs.Scopes.{scope_read}
use Rattle.scope_filters.specs.declared.scope.RawScope.{RawScope}
use Rattle.scope_filters.specs.declared.scope.ScopeError.{ScopeError}
use Rattle.request_parts.specs.Steps.{◌>>=◌}
use Rattle.request_parts.specs.declared.scopes.ScopeFault.{ScopeFault}

-- an error of the text at a place
abbrev pub at_place : ℕ → Result RawScope ScopeError → Result RawScope ScopeFault
at_place at (Ok scope) = Ok scope
at_place at (Err e) = Err (record { index = at; error = e })

-- the scopes of texts, the first of which has a place: an error is that of the first text that is no scope
abbrev pub scopes_from : ℕ → List (List ℕ) → Result (List RawScope) ScopeFault
scopes_from at [] = Ok []
scopes_from at (text ∷ rest) = do
  first ← at_place at (scope_read text)
  others ← scopes_from (at + 1) rest
  Ok (first ∷ others)

-- the scopes of texts
unfoldable pub scopes_read : List (List ℕ) → Result (List RawScope) ScopeFault
scopes_read texts = scopes_from 0 texts
