-- The calls on shares.
use Rattle.std.specs.Prelude.{ℕ, Bool, false, ◌&&◌, ◌==◌, not, nat_le, if◌then◌else◌, List, [], ◌∷◌, ◌++◌, map, length, codes, decimal}
use Rattle.std.specs.Prelude.{Option, Some, None, Result, Ok, Err}
use Rattle.std.specs.FinMap.{contains_key, get, len}
use Rattle.hub_kit.specs.declared.names.ServerKey.{ServerKey}
use Rattle.scope_filters.specs.declared.scope.RawScope.{RawScope}
use Rattle.hub_rows.specs.declared.changes.RowChange.{RowChange}
use Rattle.hub_rows.specs.declared.changes.RowChange.TheVariants.{Put, Remove}
use Rattle.hub_rows.specs.declared.keys.Recipient.{Recipient}
use Rattle.hub_rows.specs.declared.keys.ShareKey.{ShareKey}
use Rattle.hub_rows.specs.declared.records.Share.{Share}
use Rattle.hub_rows.specs.declared.rows.Row.TheVariants as Row
use Rattle.hub_rows.specs.declared.rows.RowKey.TheVariants as RowKey
use Rattle.hub_tables.specs.State.{State}
use Rattle.shares.specs.Granting.{grant_share, revoke_share}
use Rattle.shares.specs.Lists.{shares_of}
use Rattle.shares.specs.declared.allowed.ShareError.{ShareError}
use Rattle.shares.specs.declared.allowed.ShareError.TheVariants as No
use Rattle.shares.specs.declared.lists.SharesOf.{SharesOf}
use Rattle.shares.specs.declared.lists.SharesOf.TheVariants.{Recipient as Received, Owner, Server}
use Rattle.hub_view.specs.Json.{Json, pairs}
use Rattle.hub_view.specs.Pages.{paged_list}
use Rattle.hub_view.specs.Records.{share_body}
use Rattle.hub_view.specs.declared.pages.Page.{Page}
use Rattle.hub_machine.specs.State.{Hub}
use Rattle.hub_machine.specs.Replies.{Answer, refuses, gives, rows_then, good, rules, if_so}
use Rattle.hub_machine.specs.declared.refusal.Refusal.{Refusal}
use Rattle.hub_machine.specs.declared.refusal.Refusal.TheVariants.{Full, Rule}

-- ---- what the rules on shares and share codes give

-- how their refusal is said. Want of memory is no answer of the rules
abbrev pub refusal_of : ShareError → Refusal
refusal_of (No.ScopeNotAllowed place) = Rule (codes "share scope " ++ decimal place)
refusal_of No.NoRecipient = Rule (codes "no recipient")
refusal_of No.CodeUnknown = Rule (codes "code unknown")
refusal_of (No.CodeExpired end) = Rule (codes "code expired")
refusal_of (No.LifeTooShort life) = Rule (codes "life too short")
refusal_of No.Memory = Rule []

-- the answer for what they give, or their refusal
abbrev pub by_rules : {X : Type 0} → Result X ShareError → (X → Answer) → Answer
by_rules (Ok given) answer = answer given
by_rules (Err refusal) answer = refuses (refusal_of refusal)

-- ---- lists

-- The body of a share; nothing stands for one that isn't kept
abbrev pub body_of_share : Option Share → Json
body_of_share None = []
body_of_share (Some share) = share_body share

-- The body of the share under this key
abbrev pub share_at : Hub → ShareKey → Json
share_at s key = body_of_share (get s.tables.shares key)

-- the path of their list, behind `/hub/api`
abbrev pub shares_path : SharesOf → List ℕ
shares_path (Received user) = codes "/users/" ++ (user ++ codes "/shared")
shares_path (Owner owner) = codes "/shares/" ++ owner
shares_path (Server server) = codes "/shares/" ++ (server.user ++ codes "/" ++ server.server)

-- GET /users/{user}/shared, GET /shares/{owner}, GET /shares/{owner}/{server}: in the order of their keys
abbrev pub get_shares : Hub → SharesOf → Page → Answer
get_shares s whose page = gives (good 200 (paged_list (shares_path whose) page (map (share_at s) (shares_of s.tables whose))))

-- ---- a share that is put

-- there is no room for a new share
abbrev pub is_without_room : State → Share → Bool
is_without_room t share = not (contains_key t.shares share.key) && nat_le t.limits.shares (len t.shares)

-- a grant adds scopes and a revocation takes some: with as many scopes as before a share is as before
abbrev pub is_as_before : Share → Option Share → Bool
is_as_before share None = false
is_as_before share (Some kept) = length kept.scopes == length share.scopes

-- The rows that put a share, where `kept` is the one that is kept: none where it is as before
abbrev pub share_put : Share → Option Share → List RowChange
share_put share kept = if is_as_before share kept then [] else Put (Row.Share share) ∷ []

-- The answer for a share that is put
abbrev pub put_share : Hub → Share → Answer
put_share s share =
    rules (if_so (is_without_room s.tables share) (Full 8 s.tables.limits.shares) ∷ [])
    (rows_then (share_put share (get s.tables.shares share.key)) (good 200 (share_body share)))

-- POST /shares/{owner}/{server}
abbrev pub post_share : Hub → (now : ℕ) → ServerKey → Option Recipient → List RawScope → Answer
post_share s now server to scopes = by_rules (grant_share s.tables server to scopes now) (put_share s)

-- ---- PATCH /shares/{owner}/{server}

-- the kept share with the recipient who is named
abbrev pub share_with : State → ServerKey → Option Recipient → Option Share
share_with t server None = None
share_with t server (Some to) = get t.shares (record { server = server; to = to })

-- what is left of a kept share is put; a share of which nothing is left goes
abbrev pub left_rows : (left kept : Option Share) → List RowChange
left_rows left None = []
left_rows None (Some kept) = Remove (RowKey.Share kept.key) ∷ []
left_rows (Some share) (Some kept) = share_put share (Some kept)

-- The body of what is left of a share, or of no share
abbrev pub left_body : Option Share → Json
left_body None = pairs []
left_body (Some share) = share_body share

-- The answer to a revocation, where `kept` was kept and `left` is left of it
abbrev pub left_share : (kept left : Option Share) → Answer
left_share kept left = rows_then (left_rows left kept) (good 200 (left_body left))

-- The recipient loses these scopes of the share of the server, or all where none are named
abbrev pub patch_share : Hub → ServerKey → Option Recipient → List RawScope → Answer
patch_share s server to scopes = by_rules (revoke_share s.tables server to scopes) (left_share (share_with s.tables server to))

-- ---- DELETE /shares/{owner}/{server}

-- The shares under these keys go
abbrev pub removals : List ShareKey → List RowChange
removals keys = map (λ key. Remove (RowKey.Share key)) keys

-- All shares of the server go
abbrev pub delete_shares : Hub → ServerKey → Answer
delete_shares s server = rows_then (removals (shares_of s.tables (Server server))) (good 204 [])
