-- Where a browser goes on once it is signed in.
use Rattle.std.specs.Prelude.{ℕ, Bool, ◌&&◌, ◌==◌, not, nat_le, nat_eq, List, [], ◌∷◌, ◌++◌, length, drop, codes, Option, Some, None}
use Rattle.std.specs.Prelude.{Result, Ok, Err, if◌then◌else◌}
use Rattle.std.specs.List.{list_all, starts_with}
use Rattle.hex.specs.Hex.{decode_of}
use Rattle.hex.specs.declared.error.FromHexError.{FromHexError}
use Rattle.hub_kit.specs.declared.names.ServerKey.{ServerKey}

-- What stands for the server in its base: its name and a slash, or nothing for the server without a name
abbrev pub server_part : List ℕ → List ℕ
server_part [] = []
server_part (b ∷ server) = (b ∷ server) ++ codes "/"

-- the base of a server's paths: `/user/U/` or `/user/U/S/`
abbrev pub base_of : ServerKey → List ℕ
base_of key = codes "/user/" ++ (key.user ++ (codes "/" ++ server_part key.server))

-- visible ASCII but the backslash
abbrev pub is_next_byte : ℕ → Bool
is_next_byte b = nat_le 33 b && nat_le b 126 && not (b == 92)

-- where a browser may be sent: at most 1,024 such bytes that begin with the base
abbrev pub is_next : List ℕ → List ℕ → Bool
is_next base target = nat_le (length target) 1024 && (list_all is_next_byte target && starts_with nat_eq target base)

-- the target, or the base where the target isn't allowed
abbrev pub next_of : List ℕ → List ℕ → List ℕ
next_of base target = if is_next base target then target else base

-- The target that was read of hex, where it is allowed behind this base
abbrev pub allowed : List ℕ → Result (List ℕ) FromHexError → Option (List ℕ)
allowed base (Ok target) = if is_next base target then Some target else None
allowed base (Err e) = None

-- the target that the cookie of a sign-in has in hex behind STATE and its full stop
abbrev pub next_in : List ℕ → List ℕ → Option (List ℕ)
next_in base cookie = allowed base (decode_of (drop 33 cookie))
