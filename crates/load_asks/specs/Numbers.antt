-- The numbers of a job.
use Rattle.std.specs.Prelude.{ℕ, zero, suc, ◌+◌, ◌*◌, ◌%◌, List, ◌++◌, codes, decimal}
use Rattle.std.specs.Int.{to_be_bytes, w128}
use Rattle.hub_kit.specs.Hashes.{draw_text}

-- a generator of Lehmer's kind, whose modulus is a prime
abbrev pub next_number : ℕ → ℕ
next_number x = (75 * x + 74) % 65537

-- the number drawn for user i
abbrev pub number_at : (seed i : ℕ) → ℕ
number_at seed zero = next_number seed
number_at seed (suc i) = next_number (number_at seed i)

-- the user whom user i asks about
abbrev pub asked_at : (seed n i : ℕ) → ℕ
asked_at seed n i = number_at seed i % n

abbrev pub draw : ℕ → List ℕ
draw k = to_be_bytes w128 k

abbrev pub token : ℕ → List ℕ
token k = draw_text (draw (k + 1))

abbrev pub name : ℕ → List ℕ
name k = codes "u" ++ decimal k
