-- The texts of refusals, and how a reply is written.
use Rattle.std.proofs.Common.{◌≡◌, ◌≢◌, ℕ, List, ◌++◌, Option, Result, refl, subst, append_assoc}
use Rattle.http_wire.specs.declared.error.SessionFault.{SessionFault}
use Rattle.proxy_core.specs.Refusals.{status_line, reply_behind, message_body}
use Rattle.proxy_api.specs.declared.calls.ApiRefusal.{ApiRefusal}
use Rattle.proxy_api.specs.declared.calls.ApiRefusal.TheVariants.{Memory}
use Rattle.proxy_api.specs.Texts.{refusal_status, refusal_message, refused_text, json, IsTextWritten}

-- the text of a refusal that has a body
abbrev pub with_message : ApiRefusal → List ℕ
with_message r = status_line (refusal_status r) ++ reply_behind json (message_body (refusal_message r) (refusal_status r))

pub text_of_refusal : (r : ApiRefusal) → r ≢ Memory → with_message r ≡ refused_text r
text_of_refusal Memory other = absurd (other refl)
text_of_refusal r other = refl

-- the parts of that text
pub text_of_parts : (line body message : List ℕ) (status : ℕ) (r : ApiRefusal) → r ≢ Memory → line ≡ status_line (refusal_status r) → body ≡ message_body message status → message ≡ refusal_message r
    → status ≡ refusal_status r → line ++ reply_behind json body ≡ refused_text r
text_of_parts line body message status r other l b m s = rw (l, b, m, s) (text_of_refusal r other)

-- what was added one after the other
pub added_behind : (old one two three four five headers name digits shown line body : List ℕ) → one ≡ old ++ headers → two ≡ one ++ name → three ≡ two ++ shown → shown ≡ digits → four ≡ three ++ line
    → five ≡ four ++ body → five ≡ old ++ (headers ++ name ++ digits ++ line ++ body)
added_behind old one two three four five headers name digits shown line body a b c is d e = rw (e, d, c, is, b, a) (simp append_assoc)

pub written_as : (text text' : List ℕ) (status status' : ℕ) (held held' : Option (List ℕ)) (writes writes' : ℕ) (result : Result ℕ SessionFault) → text ≡ text' → status ≡ status'
    → IsTextWritten text status held held' writes writes' result → IsTextWritten text' status' held held' writes writes' result
written_as text text' status status' held held' writes writes' result t s written =
    subst (λ (x : List ℕ). IsTextWritten x status' held held' writes writes' result) t
    (subst (λ (x : ℕ). IsTextWritten text x held held' writes writes' result) s written)
