-- JSON as the tokens of its text. A body that is no token at all is a reply without body.
use Rattle.std.specs.Prelude.{ℕ, Bool, if◌then◌else◌, List, [], ◌∷◌, ◌++◌, map, decimal, codes, Option, Some, None}
use Rattle.json.specs.Token.{Token, begin_object, end_object, begin_array, end_array, key, string, number, boolean, null}

abbrev pub Json : Type 0
Json = List Token

-- a key with its value
abbrev pub Member : Type 0
Member = List ℕ × Json

abbrev pub nothing : Json
nothing = null ∷ []

abbrev pub truth : Bool → Json
truth b = boolean b ∷ []

abbrev pub whole : ℕ → Json
whole n = number (decimal n) ∷ []

abbrev pub line : List ℕ → Json
line s = string s ∷ []

-- the value, or null where there is none
abbrev pub maybe : {X : Type 0} → (X → Json) → Option X → Json
maybe f None = nothing
maybe f (Some x) = f x

-- the items one after the other, and the closing bracket
abbrev pub items_on : List Json → Json
items_on [] = end_array ∷ []
items_on (j ∷ js) = j ++ items_on js

abbrev pub items : List Json → Json
items js = begin_array ∷ items_on js

abbrev pub lines : List (List ℕ) → Json
lines ss = items (map line ss)

-- each key with its value, and the closing bracket
abbrev pub pairs_on : List Member → Json
pairs_on [] = end_object ∷ []
pairs_on (m ∷ ms) = key m.0 ∷ (m.1 ++ pairs_on ms)

abbrev pub pairs : List Member → Json
pairs ms = begin_object ∷ pairs_on ms

-- a member that stands there where it is shown
abbrev pub member : Bool → List ℕ → Json → List Member
member shown name value = if shown then (name, value) ∷ [] else []

-- the body of a refusal
abbrev pub message_body : ℕ → List ℕ → Json
message_body status message = pairs ((codes "message", line message) ∷ (codes "status", whole status) ∷ [])
