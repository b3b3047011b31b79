-- When the hashes of two tokens of a job meet.
use Rattle.std.specs.Prelude.{◌≡◌, ◌≤◌, ◌⊎◌, ◌+◌, ℕ, true, List, codes, Option, Some, None}
use Rattle.std.specs.BTreeSet.{BTreeSet, contains}
use Rattle.std.specs.Cmp.Lexicographic.{slice_cmp}
use Rattle.std.specs.Ordering.{nat_cmp}
use Rattle.hub_kit.specs.Hashes.{draw_text, hash_text}
use Rattle.load_asks.specs.Numbers.{draw}

abbrev pub root_hash : List ℕ
root_hash = hash_text (codes "load-admin-token")

-- of the token text of draw k
abbrev pub hash_at : ℕ → List ℕ
hash_at k = hash_text (draw_text (draw k))

-- the hash is that of root's token, or of one of the first n draws
abbrev pub IsAmong : ℕ → List ℕ → Type 0
IsAmong n hash = (hash ≡ root_hash) ⊎ ((j : ℕ) × (1 ≤ j) × (j ≤ n) × (hash ≡ hash_at j))

-- of the draws 1 to n none has the hash of root's token or of an earlier draw
abbrev pub AreApart : ℕ → Type 0
AreApart n = (j : ℕ) → j + 1 ≤ n → ¬ (IsAmong j (hash_at (j + 1)))

-- the least draw up to n that has the hash of root's token or of an earlier draw, if there is one
abbrev pub IsFirstKept : ℕ → Option ℕ → Type 0
IsFirstKept n (Some k) = (before : ℕ) × (k ≡ before + 1) × (k ≤ n) × IsAmong before (hash_at k) × AreApart before
IsFirstKept n None = AreApart n

-- the set has exactly these hashes
pub record Keeps (kept : BTreeSet (List ℕ)) (n : ℕ) : Type 0 where
  pub among : (hash : List ℕ) → contains (slice_cmp nat_cmp) kept hash ≡ true → IsAmong n hash
  pub each : (hash : List ℕ) → IsAmong n hash → contains (slice_cmp nat_cmp) kept hash ≡ true
