use Rattle.std.proofs.Common.{◌∙◌, ap}
use Rattle.std.specs.FinMap.{from_entries, get-empty}
use Rattle.keyed_rows.specs.Rows.{map_of}
use Rattle.keeper.specs.RowOrder.{key_cmp}
use Rattle.keeper.specs.Rows.{AreSame, no_rows, after_items}
use Rattle.keeper.specs.Held.{held, text_in}
use Rattle.keeper.proofs.Steps.{items_same}
use Rattle.keeper.proofs.held_rows.rows_of.Goals as goal

pub returns : goal.returns
returns c kind key =
    let none : AreSame (held (map_of key_cmp c.new-made.result)) no_rows =
    λ k l. ap (λ es. held (from_entries {R = key_cmp} es) k l) c.new-made.ensures.empty ∙ ap text_in (get-empty key_cmp (record { kind = k; key = l })) in
    c.in_ok-do_items.ensures.ok kind key
    ∙ items_same c.deref.result.now _ no_rows none kind key
    ∙ ap (λ items. after_items items no_rows kind key) (c.deref.ensures.value ∙ c.in_ok-items.ensures)
