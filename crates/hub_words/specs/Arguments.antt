-- What is read from the matches of a command.
use Rattle.std.specs.Prelude.{◌≡◌, ℕ, List, Option, Some, None, option_map, option_and_then, Result, Ok, Err}
use Rattle.clap.specs.Walk.{Row, Text, first_of}
use Rattle.hub_words.specs.declared.word_error.NoValue.{NoValue}
use Rattle.hub_words.specs.declared.word_error.NoValue.TheVariants.{Wrong, Memory}

-- both, where there are both
abbrev pub pair : {A B : Type 0} → Option A → Option B → Option (A × B)
pair (Some a) (Some b) = Some (a, b)
pair (Some a) None = None
pair None b = None

-- an argument that has to be there
abbrev pub needed : {X : Type 0} → (List ℕ → Option X) → Text → List Row → Option X
needed reads id rows = option_and_then reads (first_of id rows)

-- an option that may lack
abbrev pub if_there : {X : Type 0} → (List ℕ → Option X) → Option Text → Option (Option X)
if_there reads None = Some None
if_there reads (Some word) = option_map Some (reads word)

abbrev pub optional : {X : Type 0} → (List ℕ → Option X) → Text → List Row → Option (Option X)
optional reads id rows = if_there reads (first_of id rows)

-- what may be answered to matches that say this: exactly that, which value is wrong, or want of memory
abbrev pub Reads : {A : Type 0} → Option A → Result A NoValue → Type 0
Reads meaning (Ok words) = meaning ≡ Some words
Reads meaning (Err (Wrong id)) = meaning ≡ None
Reads meaning (Err Memory) = Unit {0}
