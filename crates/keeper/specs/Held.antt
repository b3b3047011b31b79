-- A tree of texts under kinds and keys: which rows it holds. A place without a text is no row.
use Rattle.std.specs.Prelude.{◌≡◌, ℕ, Bool, true, false, List, [], ◌∷◌, ◌++◌, Option, Some, None, is_none}
use Rattle.std.specs.FinMap.{FinMap, get, contains_key}
use Rattle.keeper.specs.RowOrder.{key_cmp}
use Rattle.keeper.specs.Rows.{Rows, with_text}
use Rattle.keeper.specs.declared.held_rows.Step.{Step}
use Rattle.keeper.specs.declared.keeper.Item.{Item}
use Rattle.keeper.specs.declared.keeper.Item.TheVariants.{Put, Delete}
use Rattle.keeper.specs.declared.keeper.Row.{Row}
use Rattle.keeper.specs.declared.row_key.RowKey.{RowKey}

-- The places of a tree, each with a text, or without one
abbrev pub HeldTexts : Type 0
HeldTexts = FinMap key_cmp (Option (List ℕ))

-- The text at a place, where the place is there and has one
abbrev pub text_in : Option (Option (List ℕ)) → Option (List ℕ)
text_in None = None
text_in (Some text) = text

-- The rows that stand in the tree
abbrev pub held : HeldTexts → Rows
held texts kind key = text_in (get texts (record { kind = kind; key = key }))

-- whether a place is there that has no text
abbrev pub is_bare : Option (Option (List ℕ)) → Bool
is_bare None = false
is_bare (Some text) = is_none text

-- What an item does: its text at its place, or none there
abbrev pub step_of : Item → Step
step_of (Put row) = record { at = record { kind = row.kind; key = row.key }; text = Some row.text }
step_of (Delete kind key) = record { at = record { kind = kind; key = key }; text = None }

-- The rows after these steps, one after the other
abbrev pub after_steps : List Step → Rows → Rows
after_steps [] rows = rows
after_steps (step ∷ steps) rows = after_steps steps (with_text step.at.kind step.at.key step.text rows)

-- each place is there
abbrev pub HaveRoom : HeldTexts → List RowKey → Type 0
HaveRoom texts [] = Unit {0}
HaveRoom texts (place ∷ places) = (contains_key texts place ≡ true) × HaveRoom texts places

-- what was there is there still
abbrev pub KeepsPlaces : HeldTexts → HeldTexts → Type 0
KeepsPlaces before after = (place : RowKey) → contains_key before place ≡ true → contains_key after place ≡ true

-- the row of a place, if it has a text
abbrev pub row_at : RowKey → Option (List ℕ) → List Row
row_at at None = []
row_at at (Some text) = record { kind = at.kind; key = at.key; text = text } ∷ []

-- The rows of these places, in their order
abbrev pub rows_in : List (RowKey × Option (List ℕ)) → List Row
rows_in [] = []
rows_in (e ∷ es) = row_at e.0 e.1 ++ rows_in es
