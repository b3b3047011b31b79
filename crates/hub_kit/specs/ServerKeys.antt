-- The text of a server's key: USER/SERVER, cut at the first slash.
use Rattle.std.specs.Prelude.{ℕ, ◌+◌, ◌==◌, ◌<◌, List, length, take, drop, position, Option, Some, None, Result, Ok, Err}
use Rattle.hub_kit.specs.Names.{name_read, server_read}
use Rattle.hub_kit.specs.declared.names.NameError.{NameError}
use Rattle.hub_kit.specs.declared.names.NameError.TheVariants.{Empty, TooLong, BadByte, Memory}
use Rattle.hub_kit.specs.declared.names.ServerKey.{ServerKey}

-- the error of the part of a text that begins at a place, with its place in the whole text
abbrev pub later : ℕ → NameError → NameError
later by (BadByte at) = BadByte (by + at)
later by Empty = Empty
later by TooLong = TooLong
later by Memory = Memory

abbrev pub IsPlaceBelow : ℕ → NameError → Type 0
IsPlaceBelow most (BadByte at) = at < most
IsPlaceBelow most Empty = Unit {0}
IsPlaceBelow most TooLong = Unit {0}
IsPlaceBelow most Memory = Unit {0}

abbrev pub key_with : List ℕ → ℕ → Result (List ℕ) NameError → Result ServerKey NameError
key_with user by (Ok server) = Ok (record { user = user; server = server })
key_with user by (Err e) = Err (later by e)

-- the user comes first, and then the server, which begins at a place
abbrev pub key_of : Result (List ℕ) NameError → ℕ → Result (List ℕ) NameError → Result ServerKey NameError
key_of (Ok user) by server = key_with user by server
key_of (Err e) by server = Err e

-- the key of a text whose slash stands at a place
abbrev pub cut_read : List ℕ → ℕ → Result ServerKey NameError
cut_read bytes at = key_of (name_read (take at bytes)) (at + 1) (server_read (drop (at + 1) bytes))

abbrev pub key_at : List ℕ → Option ℕ → Result ServerKey NameError
key_at bytes (Some at) = cut_read bytes at
key_at bytes None = Err (BadByte (length bytes))

-- what reading a key gives
abbrev pub key_read : List ℕ → Result ServerKey NameError
key_read bytes = key_at bytes (position (λ b. b == 47) bytes)
