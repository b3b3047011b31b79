-- The token in a file.
use Rattle.std.specs.Prelude.{◌≡◌, ℕ, List, Option, Some, None, ⊤}
use Rattle.std.specs.Io.BufRead.{strip_last}
use Rattle.hub_devices.specs.NamedFiles.{Reads}
use Rattle.hub_words.specs.Values.{secret_in}
use Rattle.hub_culling.specs.declared.cause.Cause.{Cause}
use Rattle.hub_culling.specs.declared.cause.Cause.TheVariants.{Words, NoFile, NoToken, Output, Memory, Link, BadReply}

-- 8 to 255 visible ASCII bytes, and at most one line end behind them
abbrev pub token_in : List ℕ → Option (List ℕ)
token_in bytes = secret_in (strip_last 10 bytes)

-- a file is read up to this many bytes and one more; a longer one has no token
abbrev pub most : ℕ
most = 256

-- the file of this name has this token
abbrev pub IsTold : Option (List (List ℕ × List ℕ)) → (name : List ℕ) → List ℕ → Type 0
IsTold files name token = (bytes : List ℕ) × Reads files name most bytes × (token_in bytes ≡ Some token)

-- why these bytes say none: they have none, unless memory was wanting
abbrev pub IsNone : List ℕ → Cause → Type 0
IsNone bytes NoToken = token_in bytes ≡ None
IsNone bytes Memory = ⊤
IsNone bytes Words = ⊥
IsNone bytes NoFile = ⊥
IsNone bytes Output = ⊥
IsNone bytes Link = ⊥
IsNone bytes (BadReply status) = ⊥

-- why the file of this name says none: it can't be read, or what was read has none
abbrev pub IsUntold : Option (List (List ℕ × List ℕ)) → (name : List ℕ) → Cause → Type 0
IsUntold files name NoFile = ⊤
IsUntold files name NoToken = (bytes : List ℕ) × Reads files name most bytes × (token_in bytes ≡ None)
IsUntold files name Memory = ⊤
IsUntold files name Words = ⊥
IsUntold files name Output = ⊥
IsUntold files name Link = ⊥
IsUntold files name (BadReply status) = ⊥
