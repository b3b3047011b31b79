-- The ends of a connection.
use Rattle.std.proofs.Common.{◌≡◌, inl, inr, ℕ, List, [], Option, Result, Ok, Err, refl, sym, subst}
use Rattle.httparse.specs.Grammar.{RequestHead}
use Rattle.hub_devices.specs.Streams.{IsEnd}
use Rattle.http_wire.proofs.DueLemmas.{body_due_not_ended}
use Rattle.http_wire.specs.Body.{RequestRefusedAt, NoBody}
use Rattle.http_wire.specs.Head.{head_of}
use Rattle.http_wire.specs.Request.{body_due_of}
use Rattle.http_wire.specs.declared.error.WireError.{WireError}
use Rattle.http_wire.specs.declared.error.WireError.TheVariants as wire
use Rattle.hub_run.specs.Turns.{Turn, View, Turns}

-- nothing changed
pub turns_same : (x y z : View) (turns : List Turn) → Turns x turns y → z ≡ y → Turns x turns z
turns_same x y z turns done same = subst (λ (v : View). Turns x turns v) (sym same) done

abbrev Due : Type 0
Due = Result ℕ WireError

not_ended : (d e : Due) (left : Option (List ℕ)) (behind : List ℕ) → d ≡ e → (e ≡ Err wire.Ended → ⊥) → NoBody d left behind wire.Ended → ⊥
not_ended (Ok n) e left behind is other bad = bad
not_ended (Err refusal) e left behind is other bad = other (cc)

-- no head refuses its body by an end
head_not_ended : (h : RequestHead) (left : Option (List ℕ)) (behind : List ℕ) → NoBody (body_due_of h) left behind wire.Ended → ⊥
head_not_ended h left behind bad =
    not_ended (body_due_of h) (body_due_of h) left behind refl (body_due_not_ended (head_of h).headers (body_due_of h) refl) bad

-- where the input ended between requests nothing is left
pub ended_is_empty : (left : Option (List ℕ)) (bytes : List ℕ) → RequestRefusedAt left bytes wire.Ended → bytes ≡ []
ended_is_empty left bytes (inl (short, at)) = at.0
ended_is_empty left bytes (inr (h, behind, served, is, bad)) = absurd (head_not_ended h left behind bad)

pub ended_is_end : (left : Option (List ℕ)) (bytes : List ℕ) → RequestRefusedAt left bytes wire.Ended → IsEnd left
ended_is_end left bytes (inl (short, at)) = at.1
ended_is_end left bytes (inr (h, behind, served, is, bad)) = absurd (head_not_ended h left behind bad)
