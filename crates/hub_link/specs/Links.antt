-- What a link to a hub was asked and gave.
use Rattle.std.specs.Prelude.{◌≡◌, ℕ, List, [], ◌∷◌, map, Option, Some, None, Result, Ok, Err}
use Rattle.hub_devices.specs.declared.link_error.LinkError.{LinkError}
use Rattle.hub_devices.specs.Calls.{Grows}

-- the reply, if one was given
abbrev pub reply_of : Result (List ℕ) LinkError → Option (List ℕ)
reply_of (Ok reply) = Some reply
reply_of (Err e) = None

-- a list of replies to come: a reply that was given was the first of them, and a fault took none
abbrev pub Comes : List (List ℕ) → Result (List ℕ) LinkError → List (List ℕ) → Type 0
Comes before (Ok reply) after = before ≡ reply ∷ after
Comes before (Err e) after = after ≡ before

-- a request, and what the link gave for it
abbrev pub Exchange : Type 0
Exchange = List ℕ × Result (List ℕ) LinkError

abbrev pub told_of : Exchange → List ℕ × Option (List ℕ)
told_of (request, given) = (request, reply_of given)

-- each ask left the link as the next one found it
abbrev pub Chain : {L : Type 0} → (L → List ℕ → Result (List ℕ) LinkError → L → Type 0) → L → List Exchange → L → Type 0
Chain does old [] new = new ≡ old
Chain {L} does old ((request, given) ∷ asks) new = (next : L) × does old request given next × Chain does next asks new

-- the link was asked exactly this, in this order, and gave that
pub record Asks {L : Type 0} (asked : L → Option (List (List ℕ × Option (List ℕ))))
    (does : L → List ℕ → Result (List ℕ) LinkError → L → Type 0) (old : L) (asks : List Exchange) (new : L) : Type 0 where
  pub meets : Chain does old asks new
  pub tells : Grows (asked old) (map told_of asks) (asked new)
