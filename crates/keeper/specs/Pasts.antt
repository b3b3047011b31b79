-- The entries that a past has seen.
use Rattle.std.specs.Prelude.{List, [], ◌∷◌, ◌++◌}
use Rattle.keeper.specs.declared.past.Past.{Past}
use Rattle.keeper.specs.declared.past.Entries.{Entries, Start, Then'}

-- The entries of a chain, the oldest in front
unfoldable pub list_of : {E : Type 0} → Entries E → List E
list_of Start = []
list_of (Then' shape before last) = list_of before ++ last ∷ []

-- The entries that a past has seen, the oldest in front
unfoldable pub entries_of : {E : Type 0} → Past E → List E
entries_of past = list_of past.seen.value
