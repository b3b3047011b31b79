-- One request at a guard that lets browsers sign in and carries upgrades, and how it ends.
use Rattle.std.specs.Prelude.{◌≡◌, ◌⊎◌, ◌≤◌, ◌++◌, ℕ, Bool, true, false, List, [], Option, Result, Ok, Err}
use Rattle.httparse.specs.Grammar.{RequestHead, print_request}
use Rattle.hub_link.specs.Links.{Exchange}
use Rattle.http_wire.specs.declared.error.SessionFault.{SessionFault}
use Rattle.http_wire.specs.declared.head.Head.{Head}
use Rattle.http_wire.specs.Head.{head_of}
use Rattle.http_wire.specs.Took.{Took}
use Rattle.http_wire.specs.Wire.{IsServedHead}
use Rattle.proxy_wire.specs.declared.framing.Framing.{Framing}
use Rattle.proxy_wire.specs.Framing.{request_framing}
use Rattle.proxy_wire.specs.Upgrades.{is_upgrade}
use Rattle.proxy_core.specs.declared.refusals.Forwarded.{Forwarded}
use Rattle.proxy_core.specs.Passes.{Place}
use Rattle.carries.specs.declared.carried.Carried.{Carried}
use Rattle.carries.specs.Carries.{Sides, going}
use Rattle.guard.specs.Carrying.{CarryFollows}
use Rattle.guard.specs.Guards.{Judges, Unread, Unframed}
use Rattle.guard.specs.declared.guards.Verdict.{Verdict}
use Rattle.guard_login.specs.Answers.{signing}
use Rattle.guard_login.specs.Logins.{IsTreated}
use Rattle.guard_login.specs.Signed.{token_given}
use Rattle.guard_login.specs.declared.answers.Signed.{Signed}
use Rattle.guard_login.specs.declared.door.Door.{Door}
use Rattle.guard_login.specs.declared.entries.Entered.{Entered}
use Rattle.guard_login.specs.declared.entries.Entered.TheVariants as entered

-- How a request that is no upgrade ended, as an end of a guard that carries upgrades too
abbrev pub signed_as : {X Y : Type 0} → Result Signed SessionFault → Result (Entered X Y) SessionFault
signed_as (Ok s) = Ok (entered.Signed s)
signed_as (Err e) = Err e

-- How an upgrade ended, as such an end
abbrev pub carried_as : {X Y : Type 0} → Result (Carried X Y) SessionFault → Result (Entered X Y) SessionFault
carried_as (Ok c) = Ok (entered.Carried c)
carried_as (Err e) = Err e

-- An upgrade with this head: its token, the header's or else the cookie's, was asked about if it has one, and the answer decides whether it
-- is carried to the door's target. fails is the link's count of faults and old all else that the call touches; with a prime, and new: after
abbrev pub Upgrades : {X Y : Type 0} → (X → Y → Sides) → Door → Head → Framing → List Exchange → ℕ → ℕ → Place → Place
    → Result (Carried X Y) SessionFault → Type 0
Upgrades sides door head framing asks fails fails' old new result =
    (verdict : Verdict) × Judges door.key (token_given head) asks fails fails' verdict
    × CarryFollows verdict sides (going head framing) door.target old new result

-- A request whose head was read was taken as what it is: an upgrade is carried where the hub admits its token, and nothing is drawn for
-- it; any other is treated by the rules of a sign-in
abbrev pub IsTaken : {R X Y : Type 0} → (R → Option (List (List ℕ))) → (R → ℕ) → R → R → (X → Y → Sides) → Bool → Door → Head → Framing
    → List Exchange → ℕ → ℕ → Place → Place → Result (Entered X Y) SessionFault → Type 0
IsTaken {R} {X} {Y} left faults random random' sides true door head framing asks fails fails' old new result =
    (r : Result (Carried X Y) SessionFault) × (result ≡ carried_as r) × (random' ≡ random)
    × Upgrades sides door head framing asks fails fails' old new r
IsTaken left faults random random' sides false door head framing asks fails fails' old new result =
    (r : Result Signed SessionFault) × (result ≡ signed_as r)
    × IsTreated left faults random random' door head framing asks fails fails' old new r

-- A head came whose body has a length that is served, and it was taken as what it is
pub record Headed {R X Y : Type 0} (left_of : R → Option (List (List ℕ))) (faults : R → ℕ) (random random' : R) (sides : X → Y → Sides)
    (door : Door) (asks : List Exchange) (fails fails' : ℕ) (old new : Place) (result : Result (Entered X Y) SessionFault) : Type 0 where
  pub head : RequestHead
  pub is : IsServedHead head
  pub left : Option (List ℕ)
  pub kept : List ℕ
  pub reads : ℕ
  pub framing : Framing
  pub took : Took old.left [] left (print_request head ++ kept)
  pub counted : old.reads ≤ reads
  pub framed : request_framing (head_of head).headers ≡ Ok framing
  pub enters : IsTaken left_of faults random random' sides (is_upgrade (head_of head) framing) door (head_of head) framing asks fails fails'
      (record old { left = left; kept = kept; reads = reads }) new result

-- How one request at a guard of this door ends: no head that is served came, so that nothing was asked or drawn; or one came, and was taken
-- as what it is. random is the source of draws, fails the link's count of faults, and old all else that the call touches; with a prime, and
-- new: after
abbrev pub EnterEnds : {R X Y : Type 0} → (R → Option (List (List ℕ))) → (R → ℕ) → R → R → (X → Y → Sides) → Door → List Exchange → ℕ → ℕ
    → Place → Place → Result (Entered X Y) SessionFault → Type 0
EnterEnds left faults random random' sides door asks fails fails' old new result =
    ((f : Result Forwarded SessionFault) × (Unread asks old new f ⊎ Unframed asks old new f) × (result ≡ signed_as (signing f))
    × (random' ≡ random))
    ⊎ Headed left faults random random' sides door asks fails fails' old new result
