-- The share that a grant or a revocation leaves.
use Rattle.std.specs.Prelude.{ℕ, Bool, not, List, [], ◌∷◌, Option, Some, None, Result, Ok, Err}
use Rattle.std.specs.FinMap.{get, contains_key}
use Rattle.hub_kit.specs.declared.names.ServerKey.{ServerKey}
use Rattle.scope_filters.specs.declared.scope.RawScope.{RawScope}
use Rattle.hub_rows.specs.declared.keys.Recipient.{Recipient}
use Rattle.hub_rows.specs.declared.keys.Recipient.TheVariants as To
use Rattle.hub_rows.specs.declared.keys.ShareKey.{ShareKey}
use Rattle.hub_rows.specs.declared.records.Share.{Share}
use Rattle.hub_rows.specs.SharedScopes.{with_scopes, without_scopes}
use Rattle.hub_tables.specs.State.{State}
use Rattle.shares.specs.Allowed.{or_access, after_rule, by_rules, if_so, if_refused_scope}
use Rattle.shares.specs.declared.allowed.ShareError.{ShareError}
use Rattle.shares.specs.declared.allowed.ShareError.TheVariants.{NoRecipient}

-- The recipient is kept
abbrev pub is_kept : State → Recipient → Bool
is_kept t (To.User user) = contains_key t.users user
is_kept t (To.Group group) = contains_key t.groups group

-- the recipient who is named, and kept
abbrev pub recipient_of : State → Option Recipient → Result Recipient ShareError
recipient_of t None = Err NoRecipient
recipient_of t (Some to) = by_rules (if_so (not (is_kept t to)) NoRecipient ∷ []) to

-- the scopes are looked at first, and then the recipient
abbrev pub checked : State → ServerKey → Option Recipient → List RawScope → Result Recipient ShareError
checked t server to scopes = after_rule (if_refused_scope server scopes) (recipient_of t to)

-- what comes for the recipient, or the refusal
abbrev pub for_recipient : {X : Type 0} → Result Recipient ShareError → (Recipient → X) → Result X ShareError
for_recipient (Ok to) given = Ok (given to)
for_recipient (Err refusal) given = Err refusal

-- ---- granting

-- a new share, or the kept one with these scopes too, created when it was
abbrev pub granted : (now : ℕ) → ShareKey → List RawScope → Option Share → Share
granted now key scopes None = record { key = key; created = now; scopes = with_scopes scopes [] }
granted now key scopes (Some kept) = record kept { scopes = with_scopes scopes kept.scopes }

-- what the share of a server with someone is once these scopes are granted
abbrev pub granted_share : State → (now : ℕ) → ServerKey → Recipient → List RawScope → Share
granted_share t now server to scopes =
    granted now (record { server = server; to = to }) (or_access server scopes) (get t.shares (record { server = server; to = to }))

-- The share that these scopes leave, granted to the one who is named at the moment `now`, or the first rule that refuses
abbrev pub grant_share : State → ServerKey → Option Recipient → List RawScope → (now : ℕ) → Result Share ShareError
grant_share t server to scopes now = for_recipient (checked t server to scopes) (λ who. granted_share t now server who scopes)

-- ---- revoking

-- no scopes are all of them
abbrev pub left : (gone kept : List RawScope) → List RawScope
left [] kept = []
left (x ∷ xs) kept = without_scopes (x ∷ xs) kept

-- a share without scopes is none
abbrev pub share_of : Share → List RawScope → Option Share
share_of share [] = None
share_of share (x ∷ xs) = Some (record share { scopes = x ∷ xs })

-- What remains of a share without these scopes, if it was kept
abbrev pub remains : List RawScope → Option Share → Option Share
remains gone None = None
remains gone (Some kept) = share_of kept (left gone kept.scopes)

-- What remains of the share with the one who is named, without these scopes, or the first rule that refuses
abbrev pub revoke_share : State → ServerKey → Option Recipient → List RawScope → Result (Option Share) ShareError
revoke_share t server to scopes = for_recipient (checked t server to scopes)
    (λ who. remains scopes (get t.shares (record { server = server; to = who })))
