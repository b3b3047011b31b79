-- What items cost: the bytes of their keys and texts.
use Rattle.std.specs.Prelude.{ℕ, ◌+◌, List, length, sum_by}
use Rattle.keeper.specs.declared.keeper.Item.{Item}
use Rattle.keeper.specs.declared.keeper.Item.TheVariants.{Put, Delete}

-- What an item costs; its kind isn't counted
abbrev pub item_cost : Item → ℕ
item_cost (Put row) = length row.key + length row.text
item_cost (Delete kind key) = length key

-- What these items cost together
abbrev pub batch_cost : List Item → ℕ
batch_cost items = sum_by item_cost items
