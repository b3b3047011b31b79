-- Who is a member of which group.
use Rattle.std.specs.Prelude.{ℕ, Bool, List, nat_eq}
use Rattle.std.specs.List.{list_any}
use Rattle.std.specs.Cmp.Lexicographic.{pointwise}

-- the members of each group
abbrev pub Context : Type 0
Context = List ℕ → List (List ℕ)

-- two texts are the same, byte by byte
abbrev pub same : List ℕ → List ℕ → Bool
same = pointwise nat_eq

-- The user is a member of the group
abbrev pub is_member : Context → List ℕ → List ℕ → Bool
is_member m user group = list_any (same user) (m group)
