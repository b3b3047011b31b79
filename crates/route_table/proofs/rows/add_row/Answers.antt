use Rattle.std.proofs.Common.{◌≡◌, ap, ◌∙◌, subst, sym}
use Rattle.std.specs.FinMap as fin
use Rattle.route_table.specs.Path.{parts, IsKey, decoded_parts}
use Rattle.route_table.specs.Rows.{rows_of}
use Rattle.route_table.proofs.RowLemmas.{kept_of}
use Rattle.route_table.proofs.EditLemmas.{rows_insert, rise_insert, keys_insert}
use Rattle.route_table.proofs.rows.add_row.Goals as goal

pub returns-clause-rows : goal.returns-clause-rows
returns-clause-rows c =
    let row = c.in_ok-row.row in
    let same : parts row.value.key ≡ decoded_parts c.args.path.now = ap (λ v. parts v.key) c.in_ok-row.ensures.ok ∙ c.requires.parts in
    let key : IsKey row.value.key = subst (λ v. IsKey v.key) (sym c.in_ok-row.ensures.ok) c.requires.key in
    rw c.in_ok-insert.ensures.items (record {
      rise = rise_insert c.args.rows.now.items c.args.path.now c.args.at row c.requires.at same c.requires.rows.rise;
      keys = keys_insert c.args.rows.now.items c.args.path.now c.args.at row c.requires.at same c.requires.rows.keys key;
    })

pub returns-clause-ok : goal.returns-clause-ok
returns-clause-ok c =
    let row = c.in_ok-row.row in
    let same : parts row.value.key ≡ decoded_parts c.args.path.now = ap (λ v. parts v.key) c.in_ok-row.ensures.ok ∙ c.requires.parts in
    rw c.in_ok-insert.ensures.items
    (rows_insert c.args.rows.now.items c.args.path.now c.args.at row c.requires.at same
    ∙ ap (λ v. fin.insert (rows_of c.args.rows.now.items) (decoded_parts c.args.path.now) (kept_of v)) c.in_ok-row.ensures.ok)
