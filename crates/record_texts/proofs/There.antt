-- Texts are always valid.
use Rattle.std.proofs.Common.{ℕ, List, Option, Some, None}
use Rattle.std.specs.Prelude.{⊤}
use Rattle.record_texts.specs.Fields.{IfThere}

pub texts_there : (o : Option (List ℕ)) → IfThere (λ text. ⊤) o
texts_there None = tt
texts_there (Some text) = tt
