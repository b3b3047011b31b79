-- What a request's headers ask of the connection and of the reply.
use Rattle.std.specs.Prelude.{ℕ, Bool, false, ◌&&◌, ◌||◌, ◌==◌, List, [], ◌∷◌, codes}
use Rattle.std.specs.List.{list_any}
use Rattle.std.specs.Str.{str_eq_ignore_ascii_case, bytes_eq}
use Rattle.http_wire.specs.declared.head.Header.{Header}
use Rattle.http_wire.specs.Fields.{is_named}
use Rattle.http_wire.specs.Words.{words, comma_parts}

-- the one word is `close`, without regard to ASCII case
abbrev pub is_close : List (List ℕ) → Bool
is_close [] = false
is_close (word ∷ []) = str_eq_ignore_ascii_case word (codes "close")
is_close (word ∷ more ∷ words) = false

-- `close` stands between the commas of the value (RFC 9110, section 7.6.1)
abbrev pub asks_close : List ℕ → Bool
asks_close value = list_any (λ part. is_close (words part)) (comma_parts value)

-- a `Connection` header asks so
abbrev pub says_close : List Header → Bool
says_close headers = list_any (λ header. is_named (codes "connection") header && asks_close header.value) headers

-- the connection closes after the reply: HTTP/1.0, or `Connection: close`
abbrev pub closes : ℕ → List Header → Bool
closes minor headers = minor == 0 || says_close headers

-- an `Accept` header has the one value that asks for pages
abbrev pub asks_pages : List Header → Bool
asks_pages headers =
    list_any (λ header. is_named (codes "accept") header && bytes_eq header.value (codes "application/jupyterhub-pagination+json")) headers
