-- The segments of a path that are still to come.
use Rattle.std.proofs.Common.{◌≡◌, ℕ, suc, ◌+◌, ◌-◌, ◌<◌, ◌≤◌, List, ap, arith}
use Rattle.request_parts.specs.Paths.{segment, before_slash, after_slash}

-- one slash more
pub one_more : (n i : ℕ) (path : List ℕ) → i < n → segment (n - i) path ≡ segment (n - (i + 1)) (after_slash path)
unfolding segment
one_more n i path below =
    let more : n - i ≡ suc (n - (i + 1)) = omega arith in ap (λ (k : ℕ). segment k path) more

-- none more
pub at_last : (n i : ℕ) (path : List ℕ) → n ≤ i → segment (n - i) path ≡ before_slash path
unfolding segment
at_last n i path ended =
    let none : n - i ≡ 0 = omega arith in ap (λ (k : ℕ). segment k path) none
