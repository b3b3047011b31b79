-- The statements of a batch, and what it is that they were run in one transaction.
use Rattle.std.specs.Prelude.{◌≡◌, ◌⊎◌, ℕ, pos, Bool, true, false, map, List, [], ◌∷◌, IsTrue, Ok}
use Rattle.keeper.specs.declared.keeper.Item.{Item}
use Rattle.keeper.specs.declared.keeper.Item.TheVariants.{Put, Delete}
use Rattle.keeper.specs.declared.keeper.Row.{Row as Kept}
use Rattle.sqlite.specs.Batch.{ExecutesAllInside}
use Rattle.sqlite.specs.Store.{Ghosts}
use Rattle.sqlite.specs.Order.{Row, column}
use Rattle.sqlite.specs.declared.types.Value.TheVariants.{Int, Text}
use Rattle.sqlite.specs.State.{Executes, QueriesRow, Shown}
use Rattle.sqlite.specs.Held.{Held, state}
use Rattle.sqlite.specs.Schema.{Schema}
use Rattle.keeper_sqlite.specs.declared.store.Form.{Form}
use Rattle.keeper_sqlite.specs.declared.store.Form.TheVariants.{Old, New}
use Rattle.keeper_sqlite.specs.Forms.{number_of}
use Rattle.row_table.specs.Shown.{shown, front}
use Rattle.row_table.specs.Texts.{make_text, raise_text, number_text, put_text, delete_text, select_text}

-- the statement of an item
abbrev pub text_of : Item → List ℕ
text_of (Put row) = put_text
text_of (Delete kind key) = delete_text

-- the values of its parameters
abbrev pub values_of : Item → Row
values_of (Put row) = Int (pos row.kind) ∷ Text row.key ∷ Text row.text ∷ []
values_of (Delete kind key) = Int (pos kind) ∷ Text key ∷ []

-- The schema has no table and no view
abbrev pub HasNoTables : Schema → Type 0
HasNoTables schema = (schema.tables ≡ []) × (schema.views ≡ [])

module _ {S : Type 0} (g : Ghosts S) where
  -- a query of the number of the store finds that of this form
  pub record IsOfForm (form : Form) (old new : Held S) : Type 0 where
    pub row : Row
    pub queried : QueriesRow number_text [] (state g old) (state g new) (Ok row)
    pub number : column row 0 ≡ Int (number_of form)

  -- a store of the newest form stays, and one of the first form is marked as of the newest
  abbrev pub IsRaised : Form → Held S → Held S → Type 0
  IsRaised Old old new = ExecutesAllInside g 0 raise_text old new (Ok tt)
  IsRaised New old new = new ≡ old

  -- The store is of a form that is known, and of the newest one then
  pub record IsKnown (old new : Held S) : Type 0 where
    pub form : Form
    pub found : Held S
    pub is_of : IsOfForm form old found
    pub raised : IsRaised form found new

  -- the tables are made in an empty store, and else the store is of a form that is known
  abbrev pub IsRenewed : Bool → Held S → Held S → Type 0
  IsRenewed true old new = ExecutesAllInside g 0 make_text old new (Ok tt)
  IsRenewed false old new = IsKnown old new

  -- the statement of each item was run once, in their order
  abbrev pub AreDone : List Item → Held S → Held S → Type 0
  AreDone [] old new = new ≡ old
  AreDone (item ∷ items) old new =
      (mid : _) × (count : ℕ) × Executes (text_of item) (values_of item) (state g old) (state g mid) (Ok count) × AreDone items mid new

  -- The items were done in one transaction, in an empty store behind the making of its tables, and what was committed is what that
  -- transaction saw in the end
  pub record IsCommitted (items : List Item) (old new : Held S) : Type 0 where
    pub is_empty : Bool
    pub empty : IsTrue is_empty → HasNoTables (state g old).now.schema
    pub only : HasNoTables (state g old).now.schema → IsTrue is_empty
    pub begun : Held S
    pub last : Held S
    pub renewed : IsRenewed is_empty (record old { in_transaction = true }) begun
    pub done : AreDone items begun last
    pub committed : (state g new).committed ≡ (state g last).now
    pub now : (state g new).now ≡ (state g last).now

  -- these are the rows that the selection gives, each of them once, in its order and value for value
  pub record IsListed (old new : Held S) (all : List Kept) : Type 0 where
    pub form : Form
    pub found : Held S
    pub is_of : IsOfForm form old found
    pub rows : List Row
    pub selected : Shown select_text [] (state g found) (state g new) rows
    pub same : map shown all ≡ map front rows

  -- a store without tables has no rows
  abbrev pub IsLoaded : Held S → Held S → List Kept → Type 0
  IsLoaded old new all = (HasNoTables (state g old).now.schema × (all ≡ []))
      ⊎ ((¬ HasNoTables (state g old).now.schema) × IsListed old new all)
