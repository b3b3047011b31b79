-- A device in memory that is told which of its calls are to fail. A call's number is how many were made before it.
use Rattle.std.specs.Prelude.{ℕ, ◌+◌, ◌-◌, ◌^◌, ◌==◌, min, Bool, List, if◌then◌else◌}
use Rattle.std.specs.List.{list_any}

-- the numbers of the calls that are to fail, how many calls were made, and how many of them failed
pub record Script : Type 0 where
  pub failing : List ℕ
  pub made : ℕ
  pub faults : ℕ

-- one more; a count stands still at the greatest that a `u64` keeps
abbrev pub one_more : ℕ → ℕ
one_more n = min (n + 1) (2 ^ 64 - 1)

-- whether the next call is to fail
abbrev pub is_failing : Script → Bool
is_failing s = list_any (λ n. n == s.made) s.failing

-- the script after one call more, which failed or not
abbrev pub after_call : Script → Bool → Script
after_call s failed =
    record { failing = s.failing; made = one_more s.made; faults = if failed then one_more s.faults else s.faults }

-- the script before the first call
abbrev pub new_script : List ℕ → Script
new_script numbers = record { failing = numbers; made = 0; faults = 0 }
