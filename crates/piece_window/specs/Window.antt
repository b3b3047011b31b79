-- The bytes that a window holds.
use Rattle.std.specs.Prelude.{◌≡◌, ◌≤◌, ℕ, List, [], ◌++◌, length, take, drop, Option}
use Rattle.upstreams.specs.Upstream.{Told, Moves}

-- the bytes from one place to another
abbrev pub inside : List ℕ → ℕ → ℕ → List ℕ
inside bytes start end = drop start (take end bytes)

-- the places lie in room of 16,384 bytes
pub record IsInside (bytes : List ℕ) (start end : ℕ) : Type 0 where
  pub order : start ≤ end
  pub fits : end ≤ 16384
  pub size : length bytes ≡ 16384

-- n bytes were received, and stand behind those that were held
pub record Came (before after : List ℕ) (told told' : Option Told) (n : ℕ) : Type 0 where
  pub piece : List ℕ
  pub size : length piece ≡ n
  pub behind : after ≡ before ++ piece
  pub moves : Moves told [] piece told'
