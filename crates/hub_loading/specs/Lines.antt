-- What a job says.
use Rattle.std.specs.Prelude.{ℕ, List, ◌++◌, decimal, codes}
use Rattle.hub_loading.specs.declared.job.Loaded.{Loaded}

abbrev pub line : List ℕ → ℕ → List ℕ
line word number = word ++ codes " " ++ decimal number ++ codes "\n"

abbrev pub lines : ℕ → Loaded → List ℕ
lines users loaded =
    line (codes "users") users ++ line (codes "ok") loaded.ok ++ line (codes "missing") loaded.missing
    ++ line (codes "admitted") loaded.admitted ++ line (codes "refused") loaded.refused ++ line (codes "revision") loaded.revision
