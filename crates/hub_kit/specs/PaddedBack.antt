-- The cells and the length of a text come back from its front. The model of `ShortText` cites these proofs, so they stand in specs/.
use Rattle.std.proofs.Common.{◌≡◌, ℕ, List, length, take, arith}
use Rattle.std.proofs.lemmas.Grind.{common_steps}
use Rattle.hub_kit.specs.Padded.{IsPadded, padded}

pub len_back : (cells : List ℕ) (len : ℕ) → IsPadded cells len → length (take len cells) ≡ len
len_back cells len h = grind (arith, common_steps)

pub cells_back : (cells : List ℕ) (len : ℕ) → IsPadded cells len → padded (take len cells) ≡ cells
cells_back cells len h = grind (arith, common_steps, len_back cells len h)
