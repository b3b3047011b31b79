-- One ask by a connection.
use Rattle.std.proofs.Common.{◌≡◌, ◌∙◌, ap, inr, ℕ, List, [], Option, Some, Result, Ok, Err, IfErr, subst}
use Rattle.http_wire.specs.declared.error.SessionFault.{SessionFault}
use Rattle.hub_core.specs.declared.start.Start.{Start}
use Rattle.hub_devices.specs.declared.link_error.LinkError.{LinkError}
use Rattle.hub_devices.specs.declared.link_error.LinkError.TheVariants.{Failed, Memory}
use Rattle.hub_run.specs.Connections.{ConnectionEnds, StreamTold}
use Rattle.hub_run.specs.Turns.{View}
use Rattle.hub_run.specs.declared.served.Served.{Served}
use Rattle.direct_link.specs.Direct.{asking, replied, Replies, IsSame, Gives, Direct}

abbrev stream : Option (List ℕ) → ℕ → StreamTold
stream bytes faults = record { bytes = bytes; faults = faults }

given_by : (start : Start) (x y : View) (request : List ℕ) (given : Result (List ℕ) LinkError) (left : StreamTold) (said : List ℕ) (failed : ℕ) (ended : Result Served SessionFault)
    → ConnectionEnds start (asking x request) (replied y left said failed) ended → Replies given ended said → Gives start x request given y
given_by start x y request (Ok reply) left said failed ended ends replies =
    record { left = left; said = said; failed = failed; ended = ended; ends = ends; replies = replies }
given_by start x y request (Err Failed) left said failed ended ends replies = absurd replies
given_by start x y request (Err Memory) left said failed ended ends replies =
    inr (record { left = left; said = said; failed = failed; ended = ended; ends = ends; replies = replies })

told : (bytes bytes' : Option (List ℕ)) (faults faults' : ℕ) → bytes ≡ bytes' → faults ≡ faults' → stream bytes faults ≡ stream bytes' faults'
told bytes bytes' faults faults' same count = ap (λ b. stream b faults) same ∙ ap (stream bytes') count

pub connected : (x y : View) (request : List ℕ) (given : Result (List ℕ) LinkError) (before held : Option (List ℕ)) (reads writes : ℕ) (left : StreamTold) (said : List ℕ) (failed : ℕ)
    (ended : Result Served SessionFault)
    → IsSame x y → before ≡ Some request → held ≡ Some [] → reads ≡ 0 → writes ≡ 0
    → ((start : Start) → x.pass.base ≡ Some start
    → ConnectionEnds start (record { view = x; input = stream before reads; output = stream held writes }) (replied y left said failed) ended)
    → Replies given ended said → Direct x request given y
connected x y request given before held reads writes left said failed ended same is none unread unwritten ends replies = record {
  same = same;
  gives = λ start base.
      given_by start x y request given left said failed ended
      (subst (λ (o : StreamTold). ConnectionEnds start (record { view = x; input = stream (Some request) 0; output = o }) (replied y left said failed) ended)
      (told held (Some []) writes 0 none unwritten)
      (subst (λ (i : StreamTold). ConnectionEnds start (record { view = x; input = i; output = stream held writes }) (replied y left said failed) ended)
      (told before (Some request) reads 0 is unread) (ends start base))) replies;
}

-- it never fails
pub never_failed : (P : Type 0) (given : Result (List ℕ) LinkError) (ended : Result Served SessionFault) (said : List ℕ) → Replies given ended said → IfErr given (λ e. e ≡ Failed → P)
never_failed P (Ok reply) ended said replies = tt
never_failed P (Err Failed) ended said replies = absurd replies
never_failed P (Err Memory) ended said replies = λ is. absurd (cc is)
