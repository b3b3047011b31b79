-- One request at a guard that may become a tunnel, and how it ends.
use Rattle.std.specs.Prelude.{◌≡◌, ◌⊎◌, ◌≤◌, ◌++◌, ℕ, List, [], Option, Result, Ok}
use Rattle.httparse.specs.Grammar.{RequestHead, print_request}
use Rattle.hub_kit.specs.declared.names.ServerKey.{ServerKey}
use Rattle.hub_link.specs.Links.{Exchange}
use Rattle.http_wire.specs.declared.error.SessionFault.{SessionFault}
use Rattle.http_wire.specs.Head.{head_of}
use Rattle.http_wire.specs.Token.{token_of}
use Rattle.http_wire.specs.Wire.{IsServedHead}
use Rattle.http_wire.specs.Took.{Took}
use Rattle.proxy_wire.specs.declared.framing.Framing.{Framing}
use Rattle.proxy_wire.specs.Framing.{request_framing}
use Rattle.proxy_core.specs.declared.refusals.Forwarded.{Forwarded}
use Rattle.proxy_core.specs.declared.refusals.Refusal.TheVariants as refusal
use Rattle.proxy_core.specs.Refusals.{IsWritten}
use Rattle.proxy_core.specs.Passes.{Place, Going}
use Rattle.carries.specs.declared.carried.Carried.{Carried}
use Rattle.carries.specs.Carries.{Sides, CarryOn, one_of, going}
use Rattle.guard.specs.declared.guards.Verdict.{Verdict}
use Rattle.guard.specs.declared.guards.Verdict.TheVariants as verdict
use Rattle.guard.specs.Denials.{IsDenied}
use Rattle.guard.specs.Guards.{Judges, Unsent, Unread, Unframed}

-- What follows the verdict on the request q, whose head was taken: it is carried to the target, or refused with nothing sent. `sides` says
-- how an upstream's two sides were left; old is all that the call touches, and new the same after it
abbrev pub CarryFollows : {R W : Type 0} → Verdict → (R → W → Sides) → Going → List ℕ → Place → Place → Result (Carried R W) SessionFault
    → Type 0
CarryFollows verdict.Pass sides q target old new result = CarryOn sides q target old new result
CarryFollows (verdict.Deny d) sides q target old new result =
    Unsent old new × (r : Result Forwarded SessionFault) × (result ≡ one_of r) × IsDenied d old.held new.held old.writes new.writes r
CarryFollows verdict.Memory sides q target old new result =
    Unsent old new × (r : Result Forwarded SessionFault) × (result ≡ one_of r)
    × IsWritten refusal.Memory old.held new.held old.writes new.writes r

-- a head came, its token was asked about if it has one, and the answer decides
pub record CarryJudged {R W : Type 0} (key : ServerKey) (target : List ℕ) (sides : R → W → Sides) (asks : List Exchange)
    (faults faults' : ℕ)
    (old new : Place) (result : Result (Carried R W) SessionFault) : Type 0 where
  pub head : RequestHead
  pub is : IsServedHead head
  pub left : Option (List ℕ)
  pub kept : List ℕ
  pub reads : ℕ
  pub framing : Framing
  pub verdict : Verdict
  pub took : Took old.left [] left (print_request head ++ kept)
  pub counted : old.reads ≤ reads
  pub framed : request_framing (head_of head).headers ≡ Ok framing
  pub judged : Judges key (token_of (head_of head).headers) asks faults faults' verdict
  pub follows : CarryFollows verdict sides (going (head_of head) framing) target (record old { left = left; kept = kept; reads = reads })
      new result

-- How one request is carried at the guard of the server with this key, which is at this target: no head came, one whose body can't be
-- served did, or its token decided. asks are what the hub was asked, faults the link's count of faults, and old all else that the call
-- touches; with a prime, and new: after
abbrev pub GuardCarries : {R W : Type 0} → ServerKey → List ℕ → (R → W → Sides) → List Exchange → ℕ → ℕ → Place → Place
    → Result (Carried R W) SessionFault → Type 0
GuardCarries key target sides asks faults faults' old new result =
    ((r : Result Forwarded SessionFault) × (result ≡ one_of r) × (Unread asks old new r ⊎ Unframed asks old new r))
    ⊎ CarryJudged key target sides asks faults faults' old new result
