use Rattle.std.proofs.Common.{◌∙◌, sym}
use Rattle.keyed_rows.specs.Rows.{map_of}
use Rattle.keeper.specs.RowOrder.{key_cmp}
use Rattle.keeper.proofs.Places.{made, copied_none}
use Rattle.keeper.proofs.held_rows.make_place.Goals as goal

pub returns-clause-same : goal.returns-clause-same
returns-clause-same c =
    let e = c.insert_row.ensures in
    (made (map_of key_cmp c.args.rows.now) (map_of key_cmp c.insert_row.new.rows) c.in_ok-copy.field-0 c.args.place.now c.insert_row.result c.in_ok-copy.ensures (copied_none _ _ c.row_at.ensures (sym c.is_some.ensures ∙ c.if-is_some.false)) e.ok e.err).0

pub returns-clause-there : goal.returns-clause-there
returns-clause-there c =
    let e = c.insert_row.ensures in
    (made (map_of key_cmp c.args.rows.now) (map_of key_cmp c.insert_row.new.rows) c.in_ok-copy.field-0 c.args.place.now c.insert_row.result c.in_ok-copy.ensures (copied_none _ _ c.row_at.ensures (sym c.is_some.ensures ∙ c.if-is_some.false)) e.ok e.err).1

pub returns-clause-kept : goal.returns-clause-kept
returns-clause-kept c =
    let e = c.insert_row.ensures in
    (made (map_of key_cmp c.args.rows.now) (map_of key_cmp c.insert_row.new.rows) c.in_ok-copy.field-0 c.args.place.now c.insert_row.result c.in_ok-copy.ensures (copied_none _ _ c.row_at.ensures (sym c.is_some.ensures ∙ c.if-is_some.false)) e.ok e.err).2
