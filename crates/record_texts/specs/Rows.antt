-- Which row stands for a record.
use Rattle.std.specs.Prelude.{◌≡◌, ℕ, List, Result, Ok, Err, ⊤}
use Rattle.serde_json.specs.Data.{Data}
use Rattle.serde_json.specs.Written.{compact_text}
use Rattle.keeper.specs.declared.keeper.Row.{Row}
use Rattle.record_texts.specs.declared.record.RowError.{RowError}
use Rattle.record_texts.specs.declared.record.RowError.TheVariants.{BadRow, Memory}

-- the row of a kind and a key whose text is the compact text of the object
abbrev pub row_with : ℕ → List ℕ → Data → Row
row_with kind key shape = record { kind = kind; key = key; text = compact_text shape }

-- this record was read, unless there was no memory for it
abbrev pub Reads : {R : Type 0} → Result R RowError → R → Type 0
Reads (Ok found) r = found ≡ r
Reads (Err (BadRow kind key)) r = ⊥
Reads (Err Memory) r = ⊤

-- the error has the kind and the key of the row
abbrev pub Names : Row → RowError → Type 0
Names row (BadRow kind key) = (kind ≡ row.kind) × (key ≡ row.key)
Names row Memory = ⊤
