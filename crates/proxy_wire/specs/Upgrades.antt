-- Requests that ask for another protocol (RFC 9110, section 7.8).
use Rattle.std.specs.Prelude.{ℕ, ◌==◌, Bool, false, ◌||◌, ◌&&◌, List, codes}
use Rattle.std.specs.List.{list_any, slice_split}
use Rattle.std.specs.Str.{str_eq_ignore_ascii_case, bytes_eq}
use Rattle.http_wire.specs.declared.head.Header.{Header}
use Rattle.http_wire.specs.declared.head.Head.{Head}
use Rattle.http_wire.specs.Fields.{is_named}
use Rattle.proxy_wire.specs.declared.framing.Framing.{Framing}
use Rattle.proxy_wire.specs.declared.framing.Framing.TheVariants.{Length, Chunked, ToEnd}

-- a comma, a space or a tab
abbrev pub is_cut : ℕ → Bool
is_cut b = b == 44 || (b == 32 || b == 9)

-- what stands between them
abbrev pub words : List ℕ → List (List ℕ)
words value = slice_split is_cut value

-- `upgrade` is among the words, without regard to ASCII case
abbrev pub names_upgrade : List ℕ → Bool
names_upgrade value = list_any (λ word. str_eq_ignore_ascii_case word (codes "upgrade")) (words value)

-- a `Connection` header has it
abbrev pub says_upgrade : List Header → Bool
says_upgrade headers = list_any (λ header. is_named (codes "connection") header && names_upgrade header.value) headers

-- an `Upgrade` header is there
abbrev pub has_protocol : List Header → Bool
has_protocol headers = list_any (λ header. is_named (codes "upgrade") header) headers

-- no body
abbrev pub is_empty : Framing → Bool
is_empty (Length n) = n == 0
is_empty Chunked = false
is_empty ToEnd = false

-- a GET of HTTP/1.1 without a body that asks for another protocol
abbrev pub is_upgrade : Head → Framing → Bool
is_upgrade head framing =
    bytes_eq head.method (codes "GET")
    && (head.minor == 1 && (is_empty framing && (has_protocol head.headers && says_upgrade head.headers)))
