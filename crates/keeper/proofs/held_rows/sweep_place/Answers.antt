use Rattle.std.proofs.Common.{◌∙◌, sym}
use Rattle.keyed_rows.specs.Rows.{map_of}
use Rattle.keeper.specs.RowOrder.{key_cmp}
use Rattle.keeper.proofs.Places.{swept}
use Rattle.keeper.proofs.held_rows.sweep_place.Goals as goal

pub returns-then-is_bare : goal.returns-then-is_bare
returns-then-is_bare c = swept (map_of key_cmp c.args.rows.now) (map_of key_cmp c.remove_row.new.rows) c.args.place.now (sym c.is_bare.ensures ∙ c.if-is_bare.true) c.remove_row.ensures.removed
