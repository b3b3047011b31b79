-- The pieces of a cookie header.
use Rattle.std.proofs.Common.{◌≡◌, ℕ, ◌+◌, ◌-◌, List, [], ◌∷◌, length, take, drop, Some, None, sym, ap, ◌∙◌, position, ◌==◌}
use Rattle.std.proofs.lemmas.List.{take_rest}
use Rattle.http_wire.proofs.WordLemmas.{split_at, split_nowhere}
use Rattle.guard_login.specs.Cookies.{pieces}

pub piece_cut : (bytes : List ℕ) (i : ℕ) → Some i ≡ position (λ b. b == 59) bytes
    → pieces bytes ≡ take i bytes ∷ pieces (take (length bytes - (i + 1)) (drop (i + 1) bytes))
piece_cut bytes i is =
    split_at (λ b. b == 59) bytes i (sym is) ∙ ap (λ rest. take i bytes ∷ pieces rest) (sym (take_rest bytes (i + 1)))

pub piece_alone : (bytes : List ℕ) → None ≡ position (λ b. b == 59) bytes → pieces bytes ≡ bytes ∷ []
piece_alone bytes is = split_nowhere (λ b. b == 59) bytes (sym is)
