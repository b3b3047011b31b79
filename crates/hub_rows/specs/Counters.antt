-- Which numbers have a next one.
use Rattle.std.specs.Prelude.{ℕ, Bool, ◌||◌, List, codes}
use Rattle.scope_filters.specs.Contexts.{same}

-- The text names one of the numbers that have a next one: those of codes, of generations and of tokens
abbrev pub is_counter : List ℕ → Bool
is_counter name = same name (codes "code") || (same name (codes "generation") || same name (codes "token"))
