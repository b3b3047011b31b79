-- From what was followed of a head that was read, to the same of one of the grammar.
use Rattle.std.proofs.Common.{◌≡◌, ℕ, List, Result, sym, subst}
use Rattle.httparse.specs.Grammar.{RequestHead}
use Rattle.http_wire.specs.declared.error.SessionFault.{SessionFault}
use Rattle.http_wire.specs.declared.head.Head.{Head}
use Rattle.http_wire.specs.Head.{head_of}
use Rattle.proxy_wire.specs.declared.framing.Framing.{Framing}
use Rattle.proxy_core.specs.Passes.{Place, Going}
use Rattle.carries.specs.declared.carried.Carried.{Carried}
use Rattle.carries.specs.Carries.{Sides, going}
use Rattle.guard.specs.declared.guards.Verdict.{Verdict}
use Rattle.guard.specs.Carrying.{CarryFollows}

pub carry_by : {R W : Type 0} (sides : R → W → Sides) (v w : Verdict) (q : Going) (target : List ℕ) (old new : Place) (result : Result (Carried R W) SessionFault)
    → v ≡ w → CarryFollows w sides q target old new result → CarryFollows v sides q target old new result
carry_by sides v w q target old new result is follows = subst (λ (x : Verdict). CarryFollows x sides q target old new result) (sym is) follows

pub carry_of : {R W : Type 0} (sides : R → W → Sides) (head : Head) (h : RequestHead) (v : Verdict) (f : Framing) (target : List ℕ) (old new : Place)
    (result : Result (Carried R W) SessionFault) → head ≡ head_of h → CarryFollows v sides (going head f) target old new result
    → CarryFollows v sides (going (head_of h) f) target old new result
carry_of sides head h v f target old new result same follows = subst (λ (x : Head). CarryFollows v sides (going x f) target old new result) same follows
