-- One request at a guard that lets browsers sign in, and how it ends.
use Rattle.std.specs.Prelude.{◌≡◌, ◌⊎◌, ◌≤◌, ◌++◌, ℕ, List, [], Option, Result, Ok, false}
use Rattle.httparse.specs.Grammar.{RequestHead, print_request}
use Rattle.hub_link.specs.Links.{Exchange}
use Rattle.http_wire.specs.declared.error.SessionFault.{SessionFault}
use Rattle.http_wire.specs.declared.head.Head.{Head}
use Rattle.http_wire.specs.Head.{head_of}
use Rattle.http_wire.specs.Took.{Took}
use Rattle.http_wire.specs.Wire.{IsServedHead}
use Rattle.proxy_wire.specs.declared.framing.Framing.{Framing}
use Rattle.proxy_wire.specs.Framing.{request_framing}
use Rattle.proxy_wire.specs.Heads.{request_text}
use Rattle.proxy_core.specs.declared.refusals.Forwarded.{Forwarded}
use Rattle.proxy_core.specs.Passes.{Place, Going, PassOn}
use Rattle.guard.specs.Guards.{Unsent, Unread, Unframed}
use Rattle.guard_login.specs.Answers.{IsGiven, IsUngiven, draws, Drew, signing, carrying, Wants, WritesAnswer}
use Rattle.guard_login.specs.Signed.{Given, Answer, passes, refuses, sends, gives, asked, stepped, answered}
use Rattle.guard_login.specs.declared.answers.Signed.{Signed}
use Rattle.guard_login.specs.declared.door.Door.{Door}
use Rattle.guard_login.specs.declared.steps.Step.{Step}

-- A request with this head and framing as it is sent on
abbrev pub going_of : Head → Framing → Going
going_of head framing = record { upgrade = false; method = head.method; text = request_text false head; framing = framing }

-- What was done with a request whose head was taken, for this answer: it was passed on to the door's target, or the answer was written and
-- nothing sent there. old is all that the call touches, and new the same after it
abbrev pub Ends : Door → Head → Framing → Answer → Place → Place → Result Signed SessionFault → Type 0
Ends door head framing passes old new result =
    (f : Result Forwarded SessionFault) × PassOn (going_of head framing) door.target old new f × (result ≡ carrying f)
Ends door head framing (refuses denial) old new result =
    Unsent old new × WritesAnswer door (refuses denial) old.held new.held old.writes new.writes result
Ends door head framing (sends state next) old new result =
    Unsent old new × WritesAnswer door (sends state next) old.held new.held old.writes new.writes result
Ends door head framing (gives token next) old new result =
    Unsent old new × WritesAnswer door (gives token next) old.held new.held old.writes new.writes result

-- What was done for this step, with a draw where it takes one. random is the source of draws, of which `left` and `faults` say what it
-- tells; with a prime: after
abbrev pub Finishes : {R : Type 0} → (R → Option (List (List ℕ))) → (R → ℕ) → R → R → Door → Head → Framing → Step → Place → Place
    → Result Signed SessionFault → Type 0
Finishes left faults random random' door head framing step old new result =
    (draw : Option (List ℕ)) × Drew left faults random random' (draws step) draw
    × Ends door head framing (answered door head step draw) old new result

-- A head was treated by the rules: the hub was asked what they say and gave this, and what they answer to that was done; or there was no
-- memory for the ask, and nothing was sent. fails and random are the link's count and the source of draws, with a prime those after
abbrev pub IsTreated : {R : Type 0} → (R → Option (List (List ℕ))) → (R → ℕ) → R → R → Door → Head → Framing → List Exchange → ℕ → ℕ
    → Place → Place → Result Signed SessionFault → Type 0
IsTreated left faults random random' door head framing asks fails fails' old new result =
    ((given : Given) × IsGiven (asked door head) asks fails fails' given
    × Finishes left faults random random' door head framing (stepped door head given) old new result)
    ⊎ (IsUngiven (asked door head) asks × (random' ≡ random) × Unsent old new × Wants old.held new.held old.writes new.writes result)

-- A head came whose body has a length that is served, and it was treated by the rules
pub record Stepped {R : Type 0} (left_of : R → Option (List (List ℕ))) (faults : R → ℕ) (random random' : R) (door : Door)
    (asks : List Exchange) (fails fails' : ℕ) (old new : Place) (result : Result Signed SessionFault) : Type 0 where
  pub head : RequestHead
  pub is : IsServedHead head
  pub left : Option (List ℕ)
  pub kept : List ℕ
  pub reads : ℕ
  pub framing : Framing
  pub took : Took old.left [] left (print_request head ++ kept)
  pub counted : old.reads ≤ reads
  pub framed : request_framing (head_of head).headers ≡ Ok framing
  pub follows : IsTreated left_of faults random random' door (head_of head) framing asks fails fails'
      (record old { left = left; kept = kept; reads = reads }) new result

-- How one request at a guard of this door ends: no head that is served came, so that nothing was asked or drawn; or one came, and was
-- treated by the rules. random is the source of draws, fails the link's count of faults, and old all else that the call touches; with a
-- prime, and new: after
abbrev pub LoginEnds : {R : Type 0} → (R → Option (List (List ℕ))) → (R → ℕ) → R → R → Door → List Exchange → ℕ → ℕ
    → Place → Place → Result Signed SessionFault → Type 0
LoginEnds left faults random random' door asks fails fails' old new result =
    ((f : Result Forwarded SessionFault) × (Unread asks old new f ⊎ Unframed asks old new f) × (result ≡ signing f) × (random' ≡ random))
    ⊎ Stepped left faults random random' door asks fails fails' old new result
