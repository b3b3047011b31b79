-- Which scopes a share may carry, and what a call on shares gives.
use Rattle.std.specs.Prelude.{◌≡◌, ℕ, Bool, true, false, ◌&&◌, not, List, [], ◌∷◌, Option, Some, None, Result, Ok, Err, if◌then◌else◌}
use Rattle.std.specs.Prelude.{option_map}
use Rattle.std.specs.List.{position}
use Rattle.hub_kit.specs.declared.names.ServerKey.{ServerKey}
use Rattle.scope_names.specs.declared.action.Action.{Action}
use Rattle.scope_names.specs.declared.action.Action.TheVariants.{AccessServers, ReadServers, Servers, DeleteServers}
use Rattle.scope_filters.specs.Admits.{same_server}
use Rattle.scope_filters.specs.declared.scope.RawFilter.{RawFilter}
use Rattle.scope_filters.specs.declared.scope.RawFilter.TheVariants as Raw
use Rattle.scope_filters.specs.declared.scope.RawScope.{RawScope}
use Rattle.scope_filters.specs.declared.scope.RawScope.TheVariants.{Plain, SelfScope, Inherit}
use Rattle.shares.specs.declared.allowed.ShareError.{ShareError}
use Rattle.shares.specs.declared.allowed.ShareError.TheVariants.{ScopeNotAllowed, Memory}

-- The action is one on servers that a share may carry
abbrev pub is_server_action : Action → Bool
is_server_action AccessServers = true
is_server_action ReadServers = true
is_server_action Servers = true
is_server_action DeleteServers = true
is_server_action _ = false

-- The filter is that of this server
abbrev pub is_of_server : ServerKey → RawFilter → Bool
is_of_server server (Raw.Server other) = same_server other server
is_of_server server _ = false

-- `access:servers`, `read:servers`, `servers` or `delete:servers`, with the filter of that very server
abbrev pub may_share : ServerKey → RawScope → Bool
may_share server (Plain action filter) = is_server_action action && is_of_server server filter
may_share server SelfScope = false
may_share server Inherit = false

-- the place of the first scope that a share may not carry
abbrev pub refused_place : ServerKey → List RawScope → Option ℕ
refused_place server scopes = position (λ x. not (may_share server x)) scopes

-- no scopes are the access to that server
abbrev pub or_access : ServerKey → List RawScope → List RawScope
or_access server [] = Plain AccessServers (Raw.Server server) ∷ []
or_access server (x ∷ xs) = x ∷ xs

-- ---- rules

-- the first rule that refuses, or else what the call gives
abbrev pub by_rules : {X : Type 0} → List (Option ShareError) → X → Result X ShareError
by_rules [] given = Ok given
by_rules (None ∷ rules) given = by_rules rules given
by_rules (Some refusal ∷ rules) given = Err refusal

-- a rule's refusal, or else what comes after it
abbrev pub after_rule : {X : Type 0} → Option ShareError → Result X ShareError → Result X ShareError
after_rule None later = later
after_rule (Some refusal) later = Err refusal

-- The refusal, where the test holds
abbrev pub if_so : Bool → ShareError → Option ShareError
if_so test refusal = if test then Some refusal else None

-- The refusal of the first scope that a share of this server may not carry, if there is one
abbrev pub if_refused_scope : ServerKey → List RawScope → Option ShareError
if_refused_scope server scopes = option_map ScopeNotAllowed (refused_place server scopes)

-- a call tells its answer; but at any time there may be no memory
abbrev pub Tells : {X : Type 0} → (answer result : Result X ShareError) → Type 0
Tells answer (Err Memory) = Unit {0}
Tells answer result = answer ≡ result

-- a check tells whether its rule passes
abbrev pub Checks : Option ShareError → Result (Unit {0}) ShareError → Type 0
Checks rule (Ok _) = rule ≡ None
Checks rule (Err refusal) = rule ≡ Some refusal
