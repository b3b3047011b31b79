-- The calls on shares: none is answered by a 503.
use Rattle.std.proofs.Common.{◌≡◌, ◌==◌, ℕ, false, [], List, Option, refl}
use Rattle.std.specs.Prelude.{Result, Ok, Err}
use Rattle.std.specs.FinMap.{get}
use Rattle.hub_kit.specs.declared.names.ServerKey.{ServerKey}
use Rattle.scope_filters.specs.declared.scope.RawScope.{RawScope}
use Rattle.hub_rows.specs.declared.keys.Recipient.{Recipient}
use Rattle.hub_rows.specs.declared.records.Share.{Share}
use Rattle.shares.specs.Granting.{grant_share, revoke_share}
use Rattle.shares.specs.Lists.{shares_of}
use Rattle.shares.specs.declared.allowed.ShareError.{ShareError}
use Rattle.shares.specs.declared.allowed.ShareError.TheVariants.{ScopeNotAllowed, NoRecipient, CodeUnknown, CodeExpired, LifeTooShort, Memory}
use Rattle.shares.specs.declared.lists.SharesOf.TheVariants.{Server}
use Rattle.hub_view.specs.Records.{share_body}
use Rattle.hub_machine.specs.State.{Hub}
use Rattle.hub_machine.specs.Replies.{Answer, rows_then, good, status_of}
use Rattle.hub_machine.specs.declared.refusal.Refusal.TheVariants.{Full}
use Rattle.hub_machine.proofs.Statuses.{is_503, no_rows, no_rule}
use Rattle.access_calls.specs.ShareCalls as calls

no_refusal : (e : ShareError) → (status_of (calls.refusal_of e) == 503) ≡ false
no_refusal (ScopeNotAllowed place) = refl
no_refusal NoRecipient = refl
no_refusal CodeUnknown = refl
no_refusal (CodeExpired end) = refl
no_refusal (LifeTooShort life) = refl
no_refusal Memory = refl

pub by_rules : {X : Type 0} (r : Result X ShareError) (answer : X → Answer) → ((x : X) → is_503 (answer x) ≡ false) → is_503 (calls.by_rules r answer) ≡ false
by_rules (Ok x) answer h = h x
by_rules (Err e) answer h = no_refusal e

pub put_share : (s : Hub) (share : Share) → is_503 (calls.put_share s share) ≡ false
put_share s share =
    let rows = calls.share_put share (get s.tables.shares share.key) in
    no_rule (calls.is_without_room s.tables share) (Full 8 s.tables.limits.shares) [] (rows_then rows (good 200 (share_body share))) refl
    (no_rows rows (good 200 (share_body share)) refl)

pub post_share : (s : Hub) (now : ℕ) (server : ServerKey) (to : Option Recipient) (scopes : List RawScope) → is_503 (calls.post_share s now server to scopes) ≡ false
post_share s now server to scopes = by_rules (grant_share s.tables server to scopes now) (calls.put_share s) (put_share s)

pub patch_share : (s : Hub) (server : ServerKey) (to : Option Recipient) (scopes : List RawScope) → is_503 (calls.patch_share s server to scopes) ≡ false
patch_share s server to scopes =
    let kept = calls.share_with s.tables server to in
    by_rules (revoke_share s.tables server to scopes) (calls.left_share kept) (λ left. no_rows (calls.left_rows left kept) (good 200 (calls.left_body left)) refl)

pub delete_shares : (s : Hub) (server : ServerKey) → is_503 (calls.delete_shares s server) ≡ false
delete_shares s server = no_rows (calls.removals (shares_of s.tables (Server server))) (good 204 []) refl
