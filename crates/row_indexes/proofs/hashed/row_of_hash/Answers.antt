use Rattle.std.proofs.Common.{◌∙◌, sym, ap}
use Rattle.std.specs.Option.{option_copied}
use Rattle.std.specs.Ordering.{nat_cmp}
use Rattle.std.specs.FinMap.{get}
use Rattle.keyed_rows.specs.Rows.{map_of}
use Rattle.row_indexes.specs.Numbers.{number_of}
use Rattle.row_indexes.proofs.ByHash.{row_none, row_gone, row_there, row_scanned}
use Rattle.row_indexes.proofs.hashed.row_of_hash.Goals as goal

pub returns-then-id : goal.returns-then-id
returns-then-id g c = row_scanned g.R.Hashed.hash_of c.args.rows.now c.requires.ordered (map_of nat_cmp c.args.ids.now) c.requires.indexed c.args.hash.now _ c.scanned.ensures.row

pub returns-in-None : goal.returns-in-None
returns-in-None g c =
    row_gone g.R.Hashed.hash_of c.args.rows.now c.requires.ordered (map_of nat_cmp c.args.ids.now) c.requires.indexed c.args.hash.now c.in-Some.id.now
    (ap (get (map_of nat_cmp c.args.ids.now)) (sym (c.number_of-number.ensures ∙ ap number_of c.as_bytes.ensures)) ∙ sym c.row_at.ensures ∙ ap option_copied c.in-Some.is)
    c.if-id.false (sym c.row_at-2.ensures ∙ ap option_copied c.in-None.is)

pub returns-in_default : goal.returns-in_default
returns-in_default g c =
    row_none g.R.Hashed.hash_of c.args.rows.now c.requires.ordered (map_of nat_cmp c.args.ids.now) c.requires.indexed c.args.hash.now
    (ap (get (map_of nat_cmp c.args.ids.now)) (sym (c.number_of-number.ensures ∙ ap number_of c.as_bytes.ensures)) ∙ sym c.row_at.ensures ∙ ap option_copied c.in_default.is)

pub returns-in-Some-row_at : goal.returns-in-Some-row_at
returns-in-Some-row_at g c =
    c.only_with.ensures
    ∙ row_there g.R.Hashed.hash_of c.args.rows.now c.requires.ordered (map_of nat_cmp c.args.ids.now) c.requires.indexed c.args.hash.now c.in-Some.id.now
    (ap (get (map_of nat_cmp c.args.ids.now)) (sym (c.number_of-number.ensures ∙ ap number_of c.as_bytes.ensures)) ∙ sym c.row_at.ensures ∙ ap option_copied c.in-Some.is)
    c.if-id.false c.in-Some-row_at.row.now (sym c.row_at-2.ensures ∙ ap option_copied c.in-Some-row_at.is)
