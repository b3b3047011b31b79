-- What an upstream tells, and what its calls make of it. An upstream that tells nothing has no conditions on it, and goes on so.
use Rattle.std.specs.Prelude.{◌≡◌, ◌⊎◌, ℕ, Bool, true, false, List, [], ◌∷◌, ◌++◌, Option, Some, None}

-- the targets that a connection was asked for, one after the other, whether it was made or not, and whether all of them are named, as
-- there was memory for each; what was sent, what is left to receive, and whether a connection is open
pub record Told : Type 0 where
  pub asked_for : List (List ℕ)
  pub names_all : Bool
  pub sent : List ℕ
  pub left : List ℕ
  pub is_open : Bool

-- a connection is open
pub record IsOpen (told : Option Told) : Type 0 where
  pub opened : (t : Told) → told ≡ Some t → t.is_open ≡ true

-- a connection to the target was asked for, once more, and made
pub record Connects (before : Option Told) (target : List ℕ) (after : Option Told) : Type 0 where
  pub sets : (t : Told) → before ≡ Some t → after ≡ Some (record t { asked_for = t.asked_for ++ target ∷ []; is_open = true })
  pub silent : before ≡ None → after ≡ None

-- a connection to the target was asked for, once more, and not made, and none is open; or there was no memory to name it
pub record Misses (before : Option Told) (target : List ℕ) (after : Option Told) : Type 0 where
  pub leaves : (t : Told) → before ≡ Some t
      → (after ≡ Some (record t { asked_for = t.asked_for ++ target ∷ []; is_open = false }))
      ⊎ (after ≡ Some (record t { names_all = false; is_open = false }))
  pub silent : before ≡ None → after ≡ None

-- these bytes were sent, and those were received from what was left
pub record Moves (before : Option Told) (gave got : List ℕ) (after : Option Told) : Type 0 where
  pub leaves : (t : Told) → before ≡ Some t
      → (rest : List ℕ) × (t.left ≡ got ++ rest) × (after ≡ Some (record t { sent = t.sent ++ gave; left = rest }))
  pub silent : before ≡ None → after ≡ None

-- all is as it was, and no connection is open
pub record Finishes (before : Option Told) (after : Option Told) : Type 0 where
  pub ends : (t : Told) → before ≡ Some t → after ≡ Some (record t { is_open = false })

-- nothing is left to receive
pub record IsSpent (told : Option Told) : Type 0 where
  pub none : (t : Told) → told ≡ Some t → t.left ≡ []
