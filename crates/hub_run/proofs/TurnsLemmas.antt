-- One turn more.
use Rattle.std.proofs.Common.{List, [], ◌∷◌, ◌++◌, refl, subst}
use Rattle.hub_run.specs.Turns.{Turn, View, Turns, Moves}

pub turns_more : (x y z : View) (ts : List Turn) (t : Turn) → Turns x ts y → Moves y t z → Turns x (ts ++ t ∷ []) z
turns_more x y z [] t none moves = (z, subst (λ (v : View). Moves v t z) none moves, refl)
turns_more x y z (s ∷ ss) t some moves = (some.0, some.1, turns_more some.0 y z ss t some.2 moves)
