-- What stands at the front of a stream of bytes, by httparse's default grammar (RFC 9112, sections 2 to 5).
use Rattle.std.specs.Prelude.{◌≡◌, ℕ, ◌≤◌, List, [], ◌∷◌, length}
use Rattle.httparse.specs.Grammar.{RequestHead, IsRequestHead, print_request, HasNoRequest, NeverHasRequest, MayBecomeRequest, EndsInTarget}

-- a head ends within so many bytes
abbrev pub head_limit : ℕ
head_limit = 16384

-- a head has at most so many headers
abbrev pub header_limit : ℕ
header_limit = 64

-- no head is whole, and more bytes can make one, or the bytes end inside a target
pub record IsOpen (bytes : List ℕ) : Type 0 where
  pub none : HasNoRequest bytes
  pub may : MayBecomeRequest bytes

-- whatever follows, no head comes; bytes that end inside a target are not yet so
pub record IsBad (bytes : List ℕ) : Type 0 where
  pub never : NeverHasRequest bytes
  pub outside : ¬ (EndsInTarget bytes)

-- the target begins with a slash
abbrev pub HasPath : List ℕ → Type 0
HasPath [] = ⊥
HasPath (b ∷ bytes) = b ≡ 47

-- a head that is served: of the grammar, within the limits, with a path as its target
pub record IsServedHead (h : RequestHead) : Type 0 where
  pub valid : IsRequestHead h
  pub path : HasPath h.target
  pub size : length (print_request h) ≤ head_limit
  pub headers : length h.fields ≤ header_limit
