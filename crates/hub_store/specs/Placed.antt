-- What a store tells: what its own keeper tells, and from the choice of a place on what the keeper at that place tells.
use Rattle.std.specs.Prelude.{◌≡◌, ℕ, Bool, IsTrue, List, Option, Some, None}
use Rattle.keeper.specs.Rows.{Rows}

module _ {K L : Type 0} where
  -- Whether such a store tells its rows: as its own keeper does, or as the keeper at its place, where one was chosen. `Own` and `Placed`
  -- say when either tells
  abbrev pub tells : (K → Type 0) → (L → Type 0) → K → Option L → Type 0
  tells Own Placed own None = Own own
  tells Own Placed own (Some placed) = Placed placed

  -- The same as a truth value
  abbrev pub is_told : (K → Bool) → (L → Bool) → K → Option L → Bool
  is_told own_told placed_told own None = own_told own
  is_told own_told placed_told own (Some placed) = placed_told placed

  -- Both say the same where they do so of each keeper. This is the proof of the law `decides` of `Keeper`, and stands here since a source
  -- cites only what stands in specs/
  pub decided : (Own : K → Type 0) (Placed : L → Type 0) (own_told : K → Bool) (placed_told : L → Bool)
      → ((k : K) → (Own k → IsTrue (own_told k)) × (IsTrue (own_told k) → Own k))
      → ((l : L) → (Placed l → IsTrue (placed_told l)) × (IsTrue (placed_told l) → Placed l))
      → (own : K) (placed : Option L)
      → (tells Own Placed own placed → IsTrue (is_told own_told placed_told own placed))
      × (IsTrue (is_told own_told placed_told own placed) → tells Own Placed own placed)
  decided Own Placed own_told placed_told owns places own None = owns own
  decided Own Placed own_told placed_told owns places own (Some placed) = places placed

  -- The rows of such a store: those of its own keeper, or of the keeper at its place, where one was chosen
  abbrev pub rows_in : (K → Rows) → (L → Rows) → K → Option L → Rows
  rows_in own_rows placed_rows own None = own_rows own
  rows_in own_rows placed_rows own (Some placed) = placed_rows placed

-- The faults of the keeper at a place, where one was chosen
abbrev pub placed_faults : {L : Type 0} → (L → ℕ) → Option L → ℕ
placed_faults faults None = 0
placed_faults faults (Some placed) = faults placed

-- The choice of a place, if one is named, led the store from `old` to `new`: without one nothing changes; with one, the first that was
-- chosen, the keeper that was opened there has the rows. `placed` is the keeper at a store's place
abbrev pub Chosen : {S L : Type 0} → (List ℕ → L → Type 0) → (S → Option L) → S → Option (List ℕ) → S → Type 0
Chosen Opens placed old None new = new ≡ old
Chosen Opens placed old (Some place) new = (placed old ≡ None) × (kept : _) × (placed new ≡ Some kept) × Opens place kept
