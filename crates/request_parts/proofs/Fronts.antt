-- Lists of which a front was read.
use Rattle.std.proofs.Common.{◌≡◌, List, [], ◌∷◌, ◌++◌, Option, Some, None, Result, Ok, Err, refl, sym, ap, append_assoc, append-nil, option_and_then}
use Rattle.request_parts.specs.Steps.{◌>>=◌}

-- a front before what the rest gives
abbrev pub joined : {N : Type 0} → List N → Option (List N) → Option (List N)
joined front None = None
joined front (Some rest) = Some (front ++ rest)

pub one_more : {N : Type 0} (front : List N) (x : N) (rest : Option (List N))
    → joined front (option_and_then (λ others. Some (x ∷ others)) rest) ≡ joined (front ++ x ∷ []) rest
one_more front x None = refl
one_more front x (Some others) = ap Some (sym (append_assoc front (x ∷ []) others))

pub whole : {N : Type 0} (front : List N) → joined front (Some []) ≡ Some front
whole front = ap Some (append-nil front)

abbrev pub joined_ok : {N E : Type 0} → List N → Result (List N) E → Result (List N) E
joined_ok front (Ok rest) = Ok (front ++ rest)
joined_ok front (Err e) = Err e

pub one_more_ok : {N E : Type 0} (front : List N) (x : N) (rest : Result (List N) E)
    → joined_ok front (rest >>= (λ others. Ok (x ∷ others))) ≡ joined_ok (front ++ x ∷ []) rest
one_more_ok front x (Ok others) = ap Ok (sym (append_assoc front (x ∷ []) others))
one_more_ok front x (Err e) = refl

pub whole_ok : {N E : Type 0} (front : List N) → joined_ok {E = E} front (Ok []) ≡ Ok front
whole_ok front = ap Ok (append-nil front)
