-- Where a key belongs in a list of entries whose keys rise.
use Rattle.std.specs.Prelude.{ℕ, suc, cond, List, [], ◌∷◌}
use Rattle.std.specs.declared.cmp.Ordering.{Ordering}
use Rattle.std.specs.Ordering.{is_lt}

-- how many keys at the front are below q
abbrev pub rank : {K X : Type 0} → (K → K → Ordering) → K → List (K × X) → ℕ
rank R q [] = 0
rank R q (e ∷ es) = cond (is_lt (R e.0 q)) (suc (rank R q es)) 0
