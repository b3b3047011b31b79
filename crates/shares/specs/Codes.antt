-- Share codes: what one is made as, what it gives, and which are over.
use Rattle.std.specs.Prelude.{ℕ, ◌+◌, Bool, ◌&&◌, nat_lt, List, [], ◌∷◌, map, Option, Some, None, Result, Ok, Err, if◌then◌else◌}
use Rattle.std.specs.List.{filter}
use Rattle.std.specs.FinMap.{values}
use Rattle.hub_kit.specs.declared.names.ServerKey.{ServerKey}
use Rattle.hub_kit.specs.Hashes.{hash_text}
use Rattle.hub_kit.specs.Moments.{capped}
use Rattle.scope_filters.specs.Admits.{same_server}
use Rattle.scope_filters.specs.declared.scope.RawScope.{RawScope}
use Rattle.hub_rows.specs.declared.keys.Recipient.TheVariants as To
use Rattle.hub_rows.specs.declared.records.Share.{Share}
use Rattle.hub_rows.specs.declared.records.ShareCode.{ShareCode}
use Rattle.hub_tables.specs.Ends.{is_over}
use Rattle.hub_tables.specs.Lookups.{code_of_hash}
use Rattle.hub_tables.specs.State.{State}
use Rattle.shares.specs.Allowed.{or_access, by_rules, if_so, if_refused_scope}
use Rattle.shares.specs.Granting.{granted_share}
use Rattle.shares.specs.declared.allowed.ShareError.{ShareError}
use Rattle.shares.specs.declared.allowed.ShareError.TheVariants.{CodeUnknown, CodeExpired, LifeTooShort}

-- ---- making

-- the code of a text: its scopes as they were given
abbrev pub made_code : ServerKey → List RawScope → (life : ℕ) → (text : List ℕ) → (id now : ℕ) → ShareCode
made_code server scopes life text id now = record {
  id = id;
  created = now;
  expires_at = capped (now + life);
  hash = hash_text text;
  scopes = or_access server scopes;
  server = server;
}

-- a code lives for a minute at least
abbrev pub make_code : ServerKey → List RawScope → (life : ℕ) → (text : List ℕ) → (id now : ℕ) → Result ShareCode ShareError
make_code server scopes life text id now =
    by_rules (if_refused_scope server scopes ∷ if_so (nat_lt life 60) (LifeTooShort life) ∷ []) (made_code server scopes life text id now)

-- ---- accepting

-- The share that a code grants a user at the moment `now`, if there is such a code, and it hasn't expired
abbrev pub accepted : State → (user : List ℕ) → (now : ℕ) → Option ShareCode → Result Share ShareError
accepted t user now None = Err CodeUnknown
accepted t user now (Some code) =
    by_rules (if_so (is_over now (Some code.expires_at)) (CodeExpired code.expires_at) ∷ [])
    (granted_share t now code.server (To.User user) code.scopes)

-- the share that the code of a text grants a user
abbrev pub accept_code : State → (user text : List ℕ) → (now : ℕ) → Result Share ShareError
accept_code t user text now = accepted t user now (code_of_hash t (hash_text text))

-- ---- expiring

-- The code is of this server, and has expired by the moment `now`
abbrev pub is_expired_code : (now : ℕ) → ServerKey → ShareCode → Bool
is_expired_code now server code = same_server code.server server && is_over now (Some code.expires_at)

-- the ids of those among codes that are a server's and over
abbrev pub expired_among : (now : ℕ) → ServerKey → List ShareCode → List ℕ
expired_among now server codes = map (λ (c : ShareCode). c.id) (filter (is_expired_code now server) codes)

-- the ids of a server's codes that are over, in order
abbrev pub expired_codes : State → (now : ℕ) → ServerKey → List ℕ
expired_codes t now server = expired_among now server (values t.codes)
