-- Whom the text of a token finds, and which tokens are over.
use Rattle.std.specs.Prelude.{◌≡◌, ℕ, List, Option, Some, None, Result, Ok, Err, if◌then◌else◌}
use Rattle.hub_kit.specs.Hashes.{hash_text}
use Rattle.scope_filters.specs.declared.holder.Owner.{Owner}
use Rattle.hub_rows.specs.declared.records.Token.{Token}
use Rattle.hub_tables.specs.Ends.{is_over}
use Rattle.hub_tables.specs.Lookups.{token_of_hash, tokens_over}
use Rattle.hub_tables.specs.State.{State}
use Rattle.token_store.specs.declared.finding.TokenError.{TokenError}
use Rattle.token_store.specs.declared.finding.TokenError.TheVariants.{Unknown, Expired, Memory}

-- The id of a token with this end, unless it is over by the moment `now`
abbrev pub until : ℕ → ℕ → Option ℕ → Result ℕ TokenError
until now id None = Ok id
until now id (Some end) = if is_over now (Some end) then Err (Expired end) else Ok id

-- The id of a token, if there is one, unless it is over by the moment `now`
abbrev pub in_time : ℕ → Option Token → Result ℕ TokenError
in_time now None = Err Unknown
in_time now (Some k) = until now k.id k.expires_at

-- the id of the token that has the text's hash, unless it is over
abbrev pub find : State → (text : List ℕ) → (now : ℕ) → Result ℕ TokenError
find t text now = in_time now (token_of_hash t (hash_text text))

-- a find tells its answer; but at any time there may be no memory
abbrev pub Finds : (answer result : Result ℕ TokenError) → Type 0
Finds answer (Err Memory) = Unit {0}
Finds answer result = answer ≡ result

-- the ids of an owner's tokens that are over, in order
abbrev pub expired_tokens : State → (now : ℕ) → Owner → List ℕ
expired_tokens t now owner = tokens_over t owner now
