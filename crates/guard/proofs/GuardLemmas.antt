-- What a link's one ask came to; and from what was judged and followed of a head that was read, to the same of one of the grammar.
use Rattle.std.proofs.Common.{◌≡◌, ℕ, false, List, [], ◌∷◌, Option, Result, Ok, Err, IfOk, IfErr, refl, sym, subst, inr}
use Rattle.httparse.specs.Grammar.{RequestHead}
use Rattle.hub_devices.specs.Faults.{Rises}
use Rattle.hub_devices.specs.declared.link_error.LinkError.{LinkError}
use Rattle.hub_devices.specs.declared.link_error.LinkError.TheVariants.{Failed, Memory}
use Rattle.hub_kit.specs.declared.names.ServerKey.{ServerKey}
use Rattle.hub_link.specs.Links.{Exchange, Asks}
use Rattle.http_wire.specs.declared.error.SessionFault.{SessionFault}
use Rattle.http_wire.specs.declared.head.Head.{Head}
use Rattle.http_wire.specs.Head.{head_of}
use Rattle.http_wire.specs.Token.{token_of}
use Rattle.proxy_wire.specs.declared.framing.Framing.{Framing}
use Rattle.proxy_wire.specs.Heads.{request_text, request_passed}
use Rattle.proxy_core.specs.declared.refusals.Forwarded.{Forwarded}
use Rattle.proxy_core.specs.Passes.{Place, Going}
use Rattle.guard.specs.declared.access.Access.{Access}
use Rattle.guard.specs.declared.guards.Verdict.{Verdict}
use Rattle.guard.specs.Access.{IsAnswered, IsUnanswered}
use Rattle.guard.specs.Guards.{Answers, Judges, Follows}

-- an ask that gave an error
pub unanswered : (request : List ℕ) (e : LinkError) → IsUnanswered request ((request, Err e) ∷ []) e
unanswered request Failed = refl
unanswered request Memory = inr (Err Memory, refl)

-- an answer and each error of an ask, as one
pub answered : {L : Type 0} (asked : L → Option (List (List ℕ × Option (List ℕ)))) (does : L → List ℕ → Result (List ℕ) LinkError → L → Type 0)
    (request : List ℕ) (old new : L) (faults faults' : ℕ) (answer : Result Access LinkError)
    → IfOk answer (λ access. (asks : List Exchange) × Asks asked does old asks new × IsAnswered request asks access)
    → IfErr answer (λ e. (asks : List Exchange) × Asks asked does old asks new × IsUnanswered request asks e)
    → IfErr answer (λ e. e ≡ Failed → Rises faults faults')
    → (asks : List Exchange) × Asks asked does old asks new × Answers request asks faults faults' answer
answered asked does request old new faults faults' (Ok access) ok err cause = ok
answered asked does request old new faults faults' (Err Failed) ok err cause = (err.0, err.1, (err.2, cause refl))
answered asked does request old new faults faults' (Err Memory) ok err cause = err

pub judges_of : (head : Head) (h : RequestHead) (key : ServerKey) (asks : List Exchange) (faults faults' : ℕ) (v : Verdict) → head ≡ head_of h
    → Judges key (token_of head.headers) asks faults faults' v → Judges key (token_of (head_of h).headers) asks faults faults' v
judges_of head h key asks faults faults' v same judged =
    subst (λ (x : Head). Judges key (token_of x.headers) asks faults faults' v) same judged

pub follows_by : (v w : Verdict) (q : Going) (target : List ℕ) (old new : Place) (result : Result Forwarded SessionFault) → v ≡ w
    → Follows w q target old new result → Follows v q target old new result
follows_by v w q target old new result is follows = subst (λ (x : Verdict). Follows x q target old new result) (sym is) follows

pub follows_of : (head : Head) (h : RequestHead) (v : Verdict) (f : Framing) (target : List ℕ) (old new : Place) (result : Result Forwarded SessionFault)
    → head ≡ head_of h → Follows v (record { upgrade = false; method = head.method; text = request_text false head; framing = f }) target old new result
    → Follows v (record { upgrade = false; method = h.method; text = request_passed false h; framing = f }) target old new result
follows_of head h v f target old new result same follows =
    subst (λ (x : Head). Follows v (record { upgrade = false; method = x.method; text = request_text false x; framing = f }) target old new result) same follows
