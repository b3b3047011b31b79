-- Steps done one after the other.
use Rattle.std.proofs.Common.{◌≡◌, ℕ, cond, List, [], ◌∷◌, map, Option, Some, None, refl, ap}
use Rattle.keeper.specs.declared.held_rows.Step.{Step}
use Rattle.keeper.specs.declared.keeper.Item.{Item}
use Rattle.keeper.specs.declared.keeper.Item.TheVariants.{Put, Delete}
use Rattle.keeper.specs.Rows.{Rows, AreSame, is_at, with_text, after_item, after_items}
use Rattle.keeper.specs.Held.{step_of, after_steps}

-- the same rows before a text is set, the same after it
pub text_same : (kind : ℕ) (key : List ℕ) (text : Option (List ℕ)) (a b : Rows) → AreSame a b → AreSame (with_text kind key text a) (with_text kind key text b)
text_same kind key text a b h other other_key = ap (λ x. cond (is_at kind key other other_key) text x) (h other other_key)

pub steps_same : (steps : List Step) (a b : Rows) → AreSame a b → AreSame (after_steps steps a) (after_steps steps b)
steps_same [] a b h = h
steps_same (step ∷ steps) a b h =
    steps_same steps (with_text step.at.kind step.at.key step.text a) (with_text step.at.kind step.at.key step.text b) (text_same step.at.kind step.at.key step.text a b h)

-- steps do what their items do
pub steps_of_items : (items : List Item) (rows : Rows) → after_steps (map step_of items) rows ≡ after_items items rows
steps_of_items [] rows = refl
steps_of_items (Put row ∷ items) rows = steps_of_items items (after_item (Put row) rows)
steps_of_items (Delete kind key ∷ items) rows = steps_of_items items (after_item (Delete kind key) rows)

pub item_same : (item : Item) (a b : Rows) → AreSame a b → AreSame (after_item item a) (after_item item b)
item_same (Put row) a b h = text_same row.kind row.key (Some row.text) a b h
item_same (Delete kind key) a b h = text_same kind key None a b h

pub items_same : (items : List Item) (a b : Rows) → AreSame a b → AreSame (after_items items a) (after_items items b)
items_same [] a b h = h
items_same (item ∷ items) a b h = items_same items (after_item item a) (after_item item b) (item_same item a b h)
