-- Which shares and share codes belong together.
use Rattle.std.specs.Prelude.{ℕ, Bool, List, map}
use Rattle.std.specs.List.{filter}
use Rattle.std.specs.FinMap.{values}
use Rattle.scope_filters.specs.Admits.{same_server}
use Rattle.scope_filters.specs.Contexts.{same}
use Rattle.hub_rows.specs.declared.keys.Recipient.TheVariants as To
use Rattle.hub_rows.specs.declared.keys.ShareKey.{ShareKey}
use Rattle.hub_rows.specs.declared.records.Share.{Share}
use Rattle.hub_rows.specs.declared.records.ShareCode.{ShareCode}
use Rattle.hub_tables.specs.Lookups.{same_recipient}
use Rattle.hub_tables.specs.State.{State}
use Rattle.shares.specs.declared.lists.CodesOf.{CodesOf}
use Rattle.shares.specs.declared.lists.CodesOf.TheVariants as Codes
use Rattle.shares.specs.declared.lists.SharesOf.{SharesOf}
use Rattle.shares.specs.declared.lists.SharesOf.TheVariants as Shares

-- ---- shares

-- The share is one of those that are asked for: a user's who received it, one's who gave it, or a server's
abbrev pub is_share_of : SharesOf → ShareKey → Bool
is_share_of (Shares.Recipient user) key = same_recipient key.to (To.User user)
is_share_of (Shares.Owner user) key = same key.server.user user
is_share_of (Shares.Server server) key = same_server key.server server

-- their keys, in order
abbrev pub shares_of : State → SharesOf → List ShareKey
shares_of t whose = map (λ (share : Share). share.key) (filter (λ (share : Share). is_share_of whose share.key) (values t.shares))

-- ---- share codes

-- The code is one of those that are asked for: of a user's servers, or of a server
abbrev pub is_code_of : CodesOf → ShareCode → Bool
is_code_of (Codes.Owner user) code = same code.server.user user
is_code_of (Codes.Server server) code = same_server code.server server

-- the ids of those among codes
abbrev pub codes_among : CodesOf → List ShareCode → List ℕ
codes_among whose codes = map (λ (code : ShareCode). code.id) (filter (is_code_of whose) codes)

-- their ids, in order
abbrev pub codes_of : State → CodesOf → List ℕ
codes_of t whose = codes_among whose (values t.codes)
