-- From what was done with a head that was read, to the same of one of the grammar.
use Rattle.std.proofs.Common.{◌≡◌, ℕ, Bool, List, Option, Result, subst}
use Rattle.httparse.specs.Grammar.{RequestHead}
use Rattle.hub_link.specs.Links.{Exchange}
use Rattle.http_wire.specs.declared.error.SessionFault.{SessionFault}
use Rattle.http_wire.specs.declared.head.Head.{Head}
use Rattle.http_wire.specs.Head.{head_of}
use Rattle.proxy_wire.specs.declared.framing.Framing.{Framing}
use Rattle.proxy_wire.specs.Upgrades.{is_upgrade}
use Rattle.proxy_core.specs.Passes.{Place}
use Rattle.carries.specs.Carries.{Sides}
use Rattle.proxy_core.specs.declared.refusals.Forwarded.{Forwarded}
use Rattle.guard_login.specs.Answers.{signing}
use Rattle.guard_login.specs.Entries.{IsTaken, signed_as}
use Rattle.guard_login.specs.declared.answers.Signed.{Signed}
use Rattle.guard_login.specs.declared.door.Door.{Door}
use Rattle.guard_login.specs.declared.entries.Entered.{Entered}

-- an answer that was written before a step was taken
pub signed_from : {X Y : Type 0} (r : Result Signed SessionFault) (f : Result Forwarded SessionFault) (result : Result (Entered X Y) SessionFault)
    → result ≡ signed_as r → r ≡ signing f → result ≡ signed_as (signing f)
signed_from r f result is same = subst (λ (x : Result Signed SessionFault). result ≡ signed_as x) same is

module _ {R X Y : Type 0} (left : R → Option (List (List ℕ))) (faults : R → ℕ) (random random' : R) (sides : X → Y → Sides) (door : Door) where
  -- by the test whether it is an upgrade
  pub enters_by : (is was : Bool) (head : Head) (f : Framing) (asks : List Exchange) (fails fails' : ℕ) (old new : Place)
      (result : Result (Entered X Y) SessionFault) → is ≡ was → IsTaken left faults random random' sides is door head f asks fails fails' old new result
      → IsTaken left faults random random' sides was door head f asks fails fails' old new result
  enters_by is was head f asks fails fails' old new result same enters =
      subst (λ (b : Bool). IsTaken left faults random random' sides b door head f asks fails fails' old new result) same enters

  pub enters_of : (head : Head) (h : RequestHead) (f : Framing) (asks : List Exchange) (fails fails' : ℕ) (old new : Place)
      (result : Result (Entered X Y) SessionFault) → head ≡ head_of h
      → IsTaken left faults random random' sides (is_upgrade head f) door head f asks fails fails' old new result
      → IsTaken left faults random random' sides (is_upgrade (head_of h) f) door (head_of h) f asks fails fails' old new result
  enters_of head h f asks fails fails' old new result same enters =
      subst (λ (x : Head). IsTaken left faults random random' sides (is_upgrade x f) door x f asks fails fails' old new result) same enters
