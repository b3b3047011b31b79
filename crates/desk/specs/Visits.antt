-- What a visit tells.
use Rattle.std.specs.Prelude.{◌≡◌, ℕ, ◌+◌, ◌≤◌, true, ltb, List, ◌++◌, if◌then◌else◌, Some}
use mathlib.Core.List.{IsPrefix}
use Rattle.desk.specs.Passes.{PassState, IsSamePass}
use Rattle.desk.specs.OwnEntries.{added}

-- the pass p found the book b, which a job left as b', and is q afterwards
pub record Visited {B E A : Type 0} (entries : B → List E) (base : B → A) (faults : B → ℕ) (p q : PassState E A) (b b' : B) : Type 0 where
  pub found_base : p.base ≡ Some (base b)
  pub begins : IsPrefix p.seen (entries b)
  pub whole : p.alone ≡ true → entries b ≡ p.seen
  pub appends : IsPrefix (entries b) (entries b')
  pub left_base : base b' ≡ base b
  pub same : IsSamePass p q
  pub others : q.others ≡ p.others
  pub seen : q.seen ≡ entries b'
  pub mine : q.mine ≡ p.mine ++ added (entries b) (entries b')
  pub failed : q.failed ≡ p.failed + (if ltb (faults b) (faults b') then 1 else 0)
  pub known : p.faults ≤ faults b
  pub exact : p.alone ≡ true → faults b ≡ p.faults
  pub grown : faults b ≤ faults b'
  pub count : q.faults ≡ faults b'
