-- The token of a request: the second of the two words of its one `Authorization` header (RFC 6750, section 2.1, and
-- JupyterHub's `token` beside `Bearer`).
use Rattle.std.specs.Prelude.{ℕ, Bool, ◌&&◌, ◌||◌, if◌then◌else◌, List, [], ◌∷◌, Option, Some, None, codes}
use Rattle.std.specs.Str.{str_eq_ignore_ascii_case, is_utf8}
use Rattle.http_wire.specs.declared.head.Header.{Header}
use Rattle.http_wire.specs.Fields.{values_of}
use Rattle.http_wire.specs.Words.{words}

-- `token` or `Bearer`, without regard to ASCII case
abbrev pub is_scheme : List ℕ → Bool
is_scheme word = str_eq_ignore_ascii_case word (codes "token") || str_eq_ignore_ascii_case word (codes "Bearer")

-- the token that a value's words give
abbrev pub token_in : List (List ℕ) → Option (List ℕ)
token_in [] = None
token_in (scheme ∷ []) = None
token_in (scheme ∷ token ∷ []) = if is_scheme scheme && is_utf8 token then Some token else None
token_in (scheme ∷ token ∷ more ∷ words) = None

-- the token that the values of all `Authorization` headers give
abbrev pub token_said : List (List ℕ) → Option (List ℕ)
token_said [] = None
token_said (value ∷ []) = token_in (words value)
token_said (value ∷ other ∷ values) = None

-- the token that the headers give
abbrev pub token_of : List Header → Option (List ℕ)
token_of headers = token_said (values_of (codes "authorization") headers)
