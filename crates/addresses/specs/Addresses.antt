-- Addresses: HOST:PORT, of which http://HOST:PORT is a target.
use Rattle.std.specs.Prelude.{ℕ, ◌==◌, Bool, false, not, ◌&&◌, ◌||◌, nat_le, List, [], ◌∷◌, ◌++◌, length, codes, Option, Some, None}
use Rattle.std.specs.Prelude.{is_some, if◌then◌else◌}
use Rattle.std.specs.Char.{is_ascii_digit}
use Rattle.std.specs.List.{list_all}
use Rattle.hub_kit.specs.Targets.{target_of}

abbrev pub is_visible : ℕ → Bool
is_visible b = nat_le 33 b && nat_le b 126

-- no `?`, `#`, `/`, `\` and `@`, which end a host in a URL
abbrev pub ends_host : ℕ → Bool
ends_host b = (b == 63) || (b == 35) || (b == 47) || (b == 92) || (b == 64)

abbrev pub is_host_byte : ℕ → Bool
is_host_byte b = is_visible b && not (ends_host b)

abbrev pub is_port : List ℕ → Bool
is_port bytes = nat_le 1 (length bytes) && list_all is_ascii_digit bytes

-- a colon and a port stand at the end
abbrev pub ends_in_port : List ℕ → Bool
ends_in_port [] = false
ends_in_port (b ∷ bs) = ((b == 58) && is_port bs) || ends_in_port bs

abbrev pub has_address_form : List ℕ → Bool
has_address_form text = list_all is_host_byte text && ends_in_port text

abbrev pub is_at_target : List ℕ → Bool
is_at_target text = is_some (target_of (codes "http://" ++ text))

-- the text as it was given
abbrev pub address_of : List ℕ → Option (List ℕ)
address_of text = if has_address_form text && is_at_target text then Some text else None
