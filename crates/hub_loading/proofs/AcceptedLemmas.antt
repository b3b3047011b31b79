-- A reply with 201 is no refusal.
use Rattle.std.proofs.Common.{◌≡◌, ◌<◌, arith, inl, inr, ℕ, true, List, codes, length, Some, refl, ap, ◌∙◌}
use Rattle.std.specs.Fmt.{digits}
use Rattle.hub_link.specs.Replies.{IsReply}
use Rattle.hub_machine.specs.Replies.{Reply, refusal_reply, refusal_body, status_of, answered}
use Rattle.hub_machine.specs.declared.refusal.Refusal.{Refusal}
use Rattle.hub_machine.specs.declared.refusal.Refusal.TheVariants.{SeenPast, NoValidToken, Needs, NotFound, NotHeld, NeedsUser, Rule, Grant, Exists, AllLeased, Full, TrailFull, NoDraw, KeeperFault, SpawnerFault, ProxyFault, StoppedWhileStarting}
use Rattle.hub_api.specs.Refusals.{no_draw}
use Rattle.reply_texts.specs.ReplyText.{reply_text, has_body}
use Rattle.direct_link.specs.Answered.{IsUnread}
use Rattle.direct_link.proofs.Replied.{IsStatus, read_as, is_400, is_403, is_404}
use Rattle.direct_link.proofs.Unread.{unread_status, refused_is, IsWireStatus}

is_409 : IsStatus 409
unfolding digits
is_409 = record { three = refl; digits = refl; phrase = refl; value = refl }

is_412 : IsStatus 412
unfolding digits
is_412 = record { three = refl; digits = refl; phrase = refl; value = refl }

is_429 : IsStatus 429
unfolding digits
is_429 = record { three = refl; digits = refl; phrase = refl; value = refl }

is_500 : IsStatus 500
unfolding digits
is_500 = record { three = refl; digits = refl; phrase = refl; value = refl }

is_503 : IsStatus 503
unfolding digits
is_503 = record { three = refl; digits = refl; phrase = refl; value = refl }

status_is : (r : Refusal) → IsStatus (status_of r)
status_is (SeenPast seen length) = is_412
status_is NoValidToken = is_403
status_is (Needs action) = is_403
status_is NotFound = is_404
status_is (NotHeld scope) = is_403
status_is NeedsUser = is_403
status_is (Rule text) = is_400
status_is (Grant word) = is_400
status_is (Exists key) = is_409
status_is (AllLeased live pool) = is_429
status_is (Full kind limit) = is_500
status_is TrailFull = is_500
status_is NoDraw = is_503
status_is KeeperFault = is_503
status_is SpawnerFault = is_503
status_is ProxyFault = is_503
status_is StoppedWhileStarting = is_409

full_body : (r : Refusal) → has_body (refusal_body r) ≡ true
full_body (SeenPast seen length) = refl
full_body NoValidToken = refl
full_body (Needs action) = refl
full_body NotFound = refl
full_body (NotHeld scope) = refl
full_body NeedsUser = refl
full_body (Rule text) = refl
full_body (Grant word) = refl
full_body (Exists key) = refl
full_body (AllLeased live pool) = refl
full_body (Full kind limit) = refl
full_body TrailFull = refl
full_body NoDraw = refl
full_body KeeperFault = refl
full_body SpawnerFault = refl
full_body ProxyFault = refl
full_body StoppedWhileStarting = refl

apart : (n : ℕ) → 201 < n → 201 ≡ n → ⊥
apart n less is = omega (arith, less, is)

not_201 : (r : Refusal) → 201 ≡ status_of r → ⊥
not_201 (SeenPast seen length) is = apart 412 (omega arith) is
not_201 NoValidToken is = apart 403 (omega arith) is
not_201 (Needs action) is = apart 403 (omega arith) is
not_201 NotFound is = apart 404 (omega arith) is
not_201 (NotHeld scope) is = apart 403 (omega arith) is
not_201 NeedsUser is = apart 403 (omega arith) is
not_201 (Rule text) is = apart 400 (omega arith) is
not_201 (Grant word) is = apart 400 (omega arith) is
not_201 (Exists key) is = apart 409 (omega arith) is
not_201 (AllLeased live pool) is = apart 429 (omega arith) is
not_201 (Full kind limit) is = apart 500 (omega arith) is
not_201 TrailFull is = apart 500 (omega arith) is
not_201 NoDraw is = apart 503 (omega arith) is
not_201 KeeperFault is = apart 503 (omega arith) is
not_201 SpawnerFault is = apart 503 (omega arith) is
not_201 ProxyFault is = apart 503 (omega arith) is
not_201 StoppedWhileStarting is = apart 409 (omega arith) is

same_reply : (a b : Reply) → answered a ≡ answered b → a ≡ b
same_reply a b e = cc

pub no_refusal : (n : ℕ) (r : Refusal) (reply : Reply) (bytes body : List ℕ) → answered reply ≡ answered (refusal_reply n r) → bytes ≡ reply_text reply true
    → IsReply bytes 201 body → ⊥
no_refusal n r reply bytes body said is read =
    let same : reply ≡ refusal_reply n r = same_reply reply (refusal_reply n r) said in
    not_201 r (read_as (status_of r) (refusal_body r) (Some n) bytes 201 body (full_body r) (status_is r) (is ∙ ap (λ (o : Reply). reply_text o true) same) read).0

pub was_drawn : (bytes body : List ℕ) → IsReply bytes 201 body → bytes ≡ reply_text no_draw true → ⊥
was_drawn bytes body read is = apart 503 (omega arith) (refused_is 503 (codes "random") no_draw bytes 201 body is_503 refl is read)

pub was_read : (bytes body : List ℕ) → IsReply bytes 201 body → IsUnread bytes → ⊥
was_read bytes body read unread = by (unread_status bytes 201 body unread read)
  where
    by : IsWireStatus 201 → ⊥
    by (inl is) = apart 400 (omega arith) is
    by (inr (inl is)) = apart 413 (omega arith) is
    by (inr (inr is)) = apart 501 (omega arith) is
