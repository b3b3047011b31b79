-- Bytes that were refused unread.
use Rattle.std.proofs.Common.{◌≡◌, ◌⊎◌, inl, inr, ◌++◌, ℕ, true, List, [], ◌∷◌, codes, Some, None, refl, sym, ap, ◌∙◌}
use Rattle.httparse.specs.Grammar.{ResponseHead, print_response, print_blank, print_version, print_reason, print_end, print_section}
use Rattle.http_wire.specs.declared.error.WireError.{WireError}
use Rattle.http_wire.specs.declared.error.WireError.TheVariants as wire
use Rattle.hub_api.specs.Refusals.{wire_refusal}
use Rattle.hub_link.specs.Replies.{IsReply}
use Rattle.hub_machine.specs.Replies.{Reply}
use Rattle.hub_view.specs.Json.{message_body}
use Rattle.reply_texts.specs.ReplyText.{reply_text, refused}
use Rattle.direct_link.specs.Answered.{IsUnread}
use Rattle.direct_link.proofs.Replied.{IsStatus, read_as, is_400, is_413, is_501}

empty_front : (a b : List ℕ) → a ++ b ≡ [] → a ≡ []
empty_front [] b is = refl
empty_front (x ∷ a) b is = cc is

empty_back : (a b : List ℕ) → a ++ b ≡ [] → b ≡ []
empty_back [] b is = is
empty_back (x ∷ a) b is = absurd (cc is)

version_there : (minor : ℕ) → print_version minor ≡ [] → ⊥
version_there minor is = cc is

no_reply : (bytes : List ℕ) (status : ℕ) (body : List ℕ) → bytes ≡ [] → IsReply bytes status body → ⊥
unfolding print_response
no_reply bytes status body none reply =
    let h : ResponseHead = reply.head in
    let one : List ℕ = print_blank h.blank ++ print_version h.minor in
    let two : List ℕ = one ++ 32 ∷ h.digits in
    let three : List ℕ = two ++ print_reason h.reason in
    let four : List ℕ = three ++ print_end h.line_end in
    let five : List ℕ = four ++ print_section h.fields h.last in
    version_there h.minor (empty_back (print_blank h.blank) (print_version h.minor)
    (empty_front one (32 ∷ h.digits) (empty_front two (print_reason h.reason) (empty_front three (print_end h.line_end)
    (empty_front four (print_section h.fields h.last) (empty_front five body (sym reply.whole ∙ none)))))))

of_some : (a b : Reply) → Some a ≡ Some b → b ≡ a
of_some a b e = cc

pub refused_is : (status : ℕ) (word : List ℕ) (r : Reply) (bytes : List ℕ) (said : ℕ) (body : List ℕ) → IsStatus status → Some (refused status word) ≡ Some r
    → bytes ≡ reply_text r true → IsReply bytes said body → said ≡ status
refused_is status word r bytes said body known is same reply =
    (read_as status (message_body status word) None bytes said body refl known (same ∙ ap (λ (o : Reply). reply_text o true) (of_some (refused status word) r is)) reply).0

-- the statuses of such refusals
abbrev pub IsWireStatus : ℕ → Type 0
IsWireStatus status = (status ≡ 400) ⊎ ((status ≡ 413) ⊎ (status ≡ 501))

by_wire : (e : WireError) (r : Reply) (bytes : List ℕ) (status : ℕ) (body : List ℕ) → wire_refusal e ≡ Some r → bytes ≡ reply_text r true
    → IsReply bytes status body → IsWireStatus status
by_wire wire.BadHead r bytes status body is same reply = inl (refused_is 400 (codes "bad head") r bytes status body is_400 is same reply)
by_wire (wire.TooLarge n) r bytes status body is same reply = inr (inl (refused_is 413 (codes "too large") r bytes status body is_413 is same reply))
by_wire wire.Coding r bytes status body is same reply = inr (inr (refused_is 501 (codes "coding not supported") r bytes status body is_501 is same reply))
by_wire wire.Ended r bytes status body is same reply = absurd (cc is)
by_wire wire.Cut r bytes status body is same reply = absurd (cc is)
by_wire wire.ReadFault r bytes status body is same reply = absurd (cc is)
by_wire wire.Memory r bytes status body is same reply = absurd (cc is)

pub unread_status : (bytes : List ℕ) (status : ℕ) (body : List ℕ) → IsUnread bytes → IsReply bytes status body → IsWireStatus status
unread_status bytes status body (inl none) reply = absurd (no_reply bytes status body none reply)
unread_status bytes status body (inr (e, r, is, same)) reply = by_wire e r bytes status body is same reply
