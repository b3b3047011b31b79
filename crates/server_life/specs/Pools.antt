-- The targets that servers may hold.
use Rattle.std.specs.Prelude.{◌≢◌, ◌≤◌, Bool, true, not, ◌&&◌, nat_eq, List, [], ◌∷◌, length, AllPairs}
use Rattle.std.specs.List.{list_any}
use Rattle.std.specs.Cmp.Lexicographic.{pointwise}
use Rattle.hub_kit.specs.declared.target.Target.{Target}

-- few targets, each of them once
pub record IsPool (targets : List Target) : Type 0 where
  pub few : length targets ≤ 1000
  pub distinct : AllPairs (λ a b. a ≢ b) targets

-- two targets are one
abbrev pub same_target : Target → Target → Bool
same_target = pointwise nat_eq

-- no target stands twice, as a test
abbrev pub are_distinct : List Target → Bool
are_distinct [] = true
are_distinct (target ∷ targets) = not (list_any (same_target target) targets) && are_distinct targets
