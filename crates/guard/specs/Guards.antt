-- One request at a guard, and how it ends.
use Rattle.std.specs.Prelude.{◌≡◌, ◌⊎◌, ◌≤◌, ◌++◌, ℕ, false, List, [], Option, Some, None, Result, Ok, Err}
use Rattle.httparse.specs.Grammar.{RequestHead, print_request}
use Rattle.hub_devices.specs.declared.link_error.LinkError.{LinkError}
use Rattle.hub_devices.specs.declared.link_error.LinkError.TheVariants.{Failed, Memory}
use Rattle.hub_devices.specs.Faults.{Rises}
use Rattle.hub_kit.specs.declared.names.ServerKey.{ServerKey}
use Rattle.hub_link.specs.Links.{Exchange}
use Rattle.http_wire.specs.declared.error.SessionFault.{SessionFault}
use Rattle.http_wire.specs.declared.error.WireError.{WireError}
use Rattle.http_wire.specs.declared.error.WireError.TheVariants as wire
use Rattle.http_wire.specs.Head.{head_of}
use Rattle.http_wire.specs.Token.{token_of}
use Rattle.http_wire.specs.Wire.{IsServedHead}
use Rattle.http_wire.specs.Next.{RefusedAt}
use Rattle.http_wire.specs.Took.{Took}
use Rattle.proxy_wire.specs.declared.framing.Framing.{Framing}
use Rattle.proxy_wire.specs.Framing.{request_framing}
use Rattle.proxy_wire.specs.Heads.{request_passed}
use Rattle.proxy_core.specs.declared.refusals.Forwarded.{Forwarded}
use Rattle.proxy_core.specs.declared.refusals.Refusal.TheVariants as refusal
use Rattle.proxy_core.specs.Refusals.{IsWritten, wire_refusal}
use Rattle.proxy_core.specs.Passes.{Place, Going, PassOn}
use Rattle.proxy_core.specs.Forward.{IsStopped}
use Rattle.guard.specs.declared.access.Access.{Access}
use Rattle.guard.specs.declared.access.Access.TheVariants.{Yes, No, NoToken, BadReply}
use Rattle.guard.specs.declared.denials.Denial.TheVariants as denial
use Rattle.guard.specs.declared.guards.Verdict.{Verdict}
use Rattle.guard.specs.declared.guards.Verdict.TheVariants as verdict
use Rattle.guard.specs.Access.{access_request, IsAnswered, IsUnanswered}
use Rattle.guard.specs.Denials.{IsDenied}

-- What the hub's answer means for a request: it is passed on, refused, or can't be decided for want of memory
abbrev pub verdict_of : Result Access LinkError → Verdict
verdict_of (Ok Yes) = verdict.Pass
verdict_of (Ok No) = verdict.Deny denial.NoAccess
verdict_of (Ok NoToken) = verdict.Deny denial.NoToken
verdict_of (Ok BadReply) = verdict.Deny denial.BadHub
verdict_of (Err Failed) = verdict.Deny denial.Hub
verdict_of (Err Memory) = verdict.Memory

-- What the link's asks for this request came to; `faults` is the link's count of faults before them, and `faults'` after them
abbrev pub Answers : List ℕ → List Exchange → ℕ → ℕ → Result Access LinkError → Type 0
Answers request asks faults faults' (Ok access) = IsAnswered request asks access
Answers request asks faults faults' (Err Failed) = IsUnanswered request asks Failed × Rises faults faults'
Answers request asks faults faults' (Err Memory) = IsUnanswered request asks Memory

-- The verdict on a request with this token, if it has one, at the server of this key: without a token it is refused and nothing asked; with
-- one the hub's answer to one ask decides
abbrev pub Judges : ServerKey → Option (List ℕ) → List Exchange → ℕ → ℕ → Verdict → Type 0
Judges key None asks faults faults' v = (asks ≡ []) × (v ≡ verdict.Deny denial.NoToken)
Judges key (Some token) asks faults faults' v =
    (answer : Result Access LinkError) × Answers (access_request key token) asks faults faults' answer × (v ≡ verdict_of answer)

-- Nothing was taken of the client, and nothing went to the upstream
pub record Unsent (old new : Place) : Type 0 where
  pub left : new.left ≡ old.left
  pub kept : new.kept ≡ old.kept
  pub told : new.told ≡ old.told

-- What follows the verdict on the request q, whose head was taken: it is passed on to the target, or refused with nothing sent. old is all
-- that the call touches, and new the same after it
abbrev pub Follows : Verdict → Going → List ℕ → Place → Place → Result Forwarded SessionFault → Type 0
Follows verdict.Pass q target old new result = PassOn q target old new result
Follows (verdict.Deny d) q target old new result = Unsent old new × IsDenied d old.held new.held old.writes new.writes result
Follows verdict.Memory q target old new result =
    Unsent old new × IsWritten refusal.Memory old.held new.held old.writes new.writes result

-- no head came, and nothing was asked
pub record Unread (asks : List Exchange) (old new : Place) (result : Result Forwarded SessionFault) : Type 0 where
  pub unasked : asks ≡ []
  pub error : WireError
  pub took : Took old.left [] new.left new.kept
  pub refused : RefusedAt new.left new.kept error
  pub told : new.told ≡ old.told
  pub stopped : IsStopped error old.held new.held old.writes new.writes result
  pub cause : error ≡ wire.ReadFault → Rises old.reads new.reads

-- a head came whose body has no length that is served, and nothing was asked
pub record Unframed (asks : List Exchange) (old new : Place) (result : Result Forwarded SessionFault) : Type 0 where
  pub unasked : asks ≡ []
  pub head : RequestHead
  pub is : IsServedHead head
  pub took : Took old.left [] new.left (print_request head ++ new.kept)
  pub told : new.told ≡ old.told
  pub error : WireError
  pub why : request_framing (head_of head).headers ≡ Err error
  pub written : IsWritten (wire_refusal error) old.held new.held old.writes new.writes result

-- a head came, its token was asked about if it has one, and the answer decides
pub record Judged (key : ServerKey) (target : List ℕ) (asks : List Exchange) (faults faults' : ℕ) (old new : Place)
    (result : Result Forwarded SessionFault) : Type 0 where
  pub head : RequestHead
  pub is : IsServedHead head
  pub left : Option (List ℕ)
  pub kept : List ℕ
  pub reads : ℕ
  pub framing : Framing
  pub verdict : Verdict
  pub took : Took old.left [] left (print_request head ++ kept)
  pub counted : old.reads ≤ reads
  pub framed : request_framing (head_of head).headers ≡ Ok framing
  pub judged : Judges key (token_of (head_of head).headers) asks faults faults' verdict
  pub follows : Follows verdict (record { upgrade = false; method = head.method; text = request_passed false head; framing = framing })
      target
      (record old { left = left; kept = kept; reads = reads }) new result

-- How one request ends at the guard of the server with this key, which is at this target: no head came, one whose body can't be served did,
-- or its token decided. asks are what the hub was asked, faults the link's count of faults, and old all else that the call touches; with a
-- prime, and new: after
abbrev pub GuardEnds : ServerKey → List ℕ → List Exchange → ℕ → ℕ → Place → Place → Result Forwarded SessionFault → Type 0
GuardEnds key target asks faults faults' old new result =
    Unread asks old new result ⊎ (Unframed asks old new result ⊎ Judged key target asks faults faults' old new result)
