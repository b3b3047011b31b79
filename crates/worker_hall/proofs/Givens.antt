-- Lemmas on what a listener tells.
use Rattle.std.proofs.Common.{◌≡◌, ◌+◌, ℕ, Option, Some, ap, ◌∙◌, arith}
use Rattle.std.specs.Option.{option_map}
use Rattle.worker_hall.specs.Given.{GaveMore}

pub Gave_none : (x : Option ℕ) → GaveMore x 0 x
Gave_none x = record { tells = λ n was. let same : n ≡ n + 0 = omega arith in was ∙ ap Some same }

pub Gave_one : (x y z : Option ℕ) (k : ℕ) → GaveMore x k y → z ≡ option_map (λ n. n + 1) y → GaveMore x (k + 1) z
Gave_one x y z k gave is = record {
  tells = λ n was.
      let same : n + k + 1 ≡ n + (k + 1) = omega arith in
      is ∙ (ap (option_map (λ m. m + 1)) (gave.tells n was) ∙ ap Some same);
}
