use Rattle.std.proofs.Common.{◌≡◌, ℕ, zero, suc, ◌+◌, ◌-◌, ◌≤◌, ◌<◌, List, [], ◌∷◌, ◌++◌, length, take, get_or, replicate, ap, refl, arith, add-one}
use Rattle.std.proofs.Math.ListN.{set}
use Rattle.std.proofs.lemmas.Grind.{common_steps}
use Rattle.hub_kit.specs.Padded.{IsPadded, padded}

pub padded_ok : (text : List ℕ) (n : ℕ) → n ≡ length text → length text ≤ 64 → IsPadded (padded text) n
padded_ok text n e h = record { fits = omega arith; size = grind (arith, common_steps); zeros = grind (arith, common_steps) }

one_more_suc : (text : List ℕ) (i r : ℕ) → i < length text → set (take i text ++ replicate (suc r) 0) i (get_or text i 0) ≡ take (suc i) text ++ replicate r 0
one_more_suc [] i r h = absurd (omega arith)
one_more_suc (t ∷ ts) zero r h = refl
one_more_suc (t ∷ ts) (suc i) r h = ap (λ xs. t ∷ xs) (one_more_suc ts i r (omega arith))

-- the cells after one more byte of the text
pub one_more : (text : List ℕ) (i : ℕ) → length text ≤ 64 → i < length text → set (take i text ++ replicate (64 - i) 0) i (get_or text i 0) ≡ take (i + 1) text ++ replicate (64 - (i + 1)) 0
one_more text i h l =
    let e : 64 - i ≡ suc (64 - (i + 1)) = omega arith in
    rw (e, add-one) (one_more_suc text i _ l)
