-- A list that grew, with what it grew by written otherwise.
use Rattle.std.proofs.Common.{◌≡◌, Result, Ok, Err, OnOk, List, ◌++◌, ap, ◌∙◌}

pub more_given : {A E Y : Type 0} (r : Result A E) (all old : List Y) {ys zs : List Y} → ys ≡ zs → OnOk r (all ≡ old ++ ys) → OnOk r (all ≡ old ++ zs)
more_given (Ok v) all old e h = h ∙ ap (λ xs. old ++ xs) e
more_given (Err v) all old e h = tt
