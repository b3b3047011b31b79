-- What a route keeps of an addition beside its target and its serial.
use Rattle.std.specs.Prelude.{ℕ, List, codes, Option, Some, None}

-- the text that is kept, or that of an empty object
abbrev pub text_or_nothing : Option (List ℕ) → List ℕ
text_or_nothing None = codes "{}"
text_or_nothing (Some text) = text
