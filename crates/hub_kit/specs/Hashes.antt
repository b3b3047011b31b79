-- Tokens as texts, and their hashes.
use Rattle.std.specs.Prelude.{ℕ, List}
use Rattle.sha2.specs.Sha256.{sha256}
use Rattle.hex.specs.Hex.{encode_lower}

-- two lower-case hex digits for each byte
abbrev pub draw_text : List ℕ → List ℕ
draw_text draw = encode_lower draw

-- the SHA-256 of the bytes, two lower-case hex digits for each of its bytes
abbrev pub hash_text : List ℕ → List ℕ
hash_text bytes = encode_lower (sha256 bytes)
