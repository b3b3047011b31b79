-- What the calls of the grant tell.
use Rattle.std.specs.Prelude.{◌≡◌, ℕ, Bool, false, List, Option, Some, None, Result, Ok, Err, if◌then◌else◌}
use Rattle.scope_filters.specs.Contexts.{same}
use Rattle.oauth_flow.specs.declared.asks.OAuthError.{OAuthError}
use Rattle.oauth_flow.specs.declared.asks.OAuthError.TheVariants.{Memory}

-- a field is there and has this text
abbrev pub is_text : List ℕ → Option (List ℕ) → Bool
is_text text None = false
is_text text (Some field) = same field text

-- The refusal, where the test holds
abbrev pub if_so : Bool → OAuthError → Option OAuthError
if_so test error = if test then Some error else None

-- the refusal of a rule, or else what comes after it
abbrev pub by_rule : {X : Type 0} → Option OAuthError → Result X OAuthError → Result X OAuthError
by_rule None rest = rest
by_rule (Some error) rest = Err error

-- a call tells its answer; but at any time there may be no memory
abbrev pub Tells : {X : Type 0} → (answer result : Result X OAuthError) → Type 0
Tells answer (Err Memory) = Unit {0}
Tells answer result = answer ≡ result

-- a check tells whether its rule passes; but at any time there may be no memory
abbrev pub Checks : Option OAuthError → Result (Unit {0}) OAuthError → Type 0
Checks rule (Ok _) = rule ≡ None
Checks rule (Err Memory) = Unit {0}
Checks rule (Err error) = rule ≡ Some error
