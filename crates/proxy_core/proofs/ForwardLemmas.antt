-- From a head that was read to one of the grammar.
use Rattle.std.proofs.Common.{◌≡◌, ℕ, Bool, List, [], Option, Result, subst}
use Rattle.httparse.specs.Grammar.{RequestHead}
use Rattle.http_wire.specs.declared.error.SessionFault.{SessionFault}
use Rattle.http_wire.specs.declared.head.Head.{Head}
use Rattle.http_wire.specs.Head.{head_of}
use Rattle.http_wire.specs.Took.{Took}
use Rattle.proxy_wire.specs.declared.framing.Framing.{Framing}
use Rattle.proxy_wire.specs.Heads.{request_text, request_passed}
use Rattle.proxy_core.specs.declared.refusals.Forwarded.{Forwarded}
use Rattle.proxy_core.specs.Forward.{Found, IsChosen}
use Rattle.proxy_core.specs.Passes.{Place, PassOn}

-- nothing was kept at first
pub took_from : (before after : Option (List ℕ)) (kept bytes : List ℕ) → kept ≡ [] → Took before kept after bytes → Took before [] after bytes
took_from before after kept bytes none took = subst (λ (x : List ℕ). Took before x after bytes) none took

pub chosen_of : {L : Type 0} (found : Found L) (head : Head) (h : RequestHead) (now : ℕ) (routes routes' : L) (f : Framing) (to : List ℕ)
    → head ≡ head_of h → IsChosen found head now routes routes' f to → IsChosen found (head_of h) now routes routes' f to
chosen_of found head h now routes routes' f to same chosen = subst (λ (x : Head). IsChosen found x now routes routes' f to) same chosen

pub passed_of : (up : Bool) (head : Head) (h : RequestHead) (f : Framing) (target : List ℕ) (old new : Place) (result : Result Forwarded SessionFault) → head ≡ head_of h
    → PassOn (record { upgrade = up; method = head.method; text = request_text up head; framing = f }) target old new result
    → PassOn (record { upgrade = up; method = h.method; text = request_passed up h; framing = f }) target old new result
passed_of up head h f target old new result same passed =
    subst (λ (x : Head). PassOn (record { upgrade = up; method = x.method; text = request_text up x; framing = f }) target old new result) same passed
