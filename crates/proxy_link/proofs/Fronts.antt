-- Lists of which a front was read.
use Rattle.std.proofs.Common.{◌≡◌, List, [], ◌∷◌, ◌++◌, Option, Some, None, refl, sym, ap, append_assoc, append-nil, option_and_then, if◌then◌else◌, Bool, true, false, ◌∙◌}
use Rattle.proxy_link.specs.Readings.{pushed}

some_same : {A : Type 0} {a b : A} → Some a ≡ Some b → a ≡ b
some_same e = cc e

-- a front before what the rest gives
abbrev pub joined : {N : Type 0} → List N → Option (List N) → Option (List N)
joined front None = None
joined front (Some rest) = Some (front ++ rest)

pub one_more : {N : Type 0} (front : List N) (x : N) (rest : Option (List N))
    → joined front (option_and_then (λ others. Some (x ∷ others)) rest) ≡ joined (front ++ x ∷ []) rest
one_more front x None = refl
one_more front x (Some others) = ap Some (sym (append_assoc front (x ∷ []) others))

pub whole : {N : Type 0} (front : List N) → joined front (Some []) ≡ Some front
whole front = ap Some (append-nil front)

-- the next one was read, or is none
pub pushed_then : {N : Type 0} (front : List N) (next : Option N) (rest : Option (List N)) (after : List N)
    → Some after ≡ pushed front next → joined after rest ≡ joined front (option_and_then (λ first. option_and_then (λ others. Some (first ∷ others)) rest) next)
pushed_then front (Some x) rest after is = ap (λ l. joined l rest) (some_same is) ∙ sym (one_more front x rest)
pushed_then front None rest after is = absurd (cc is)

pub pushed_if : {N : Type 0} (front : List N) (next : Option N) (rest : Option (List N)) (after : List N) (good : Bool)
    → (if good then Some after else None) ≡ pushed front next → good ≡ true
    → joined after rest ≡ joined front (option_and_then (λ first. option_and_then (λ others. Some (first ∷ others)) rest) next)
pushed_if front next rest after true is good = pushed_then front next rest after is
pushed_if front next rest after false is good = absurd (cc good)
