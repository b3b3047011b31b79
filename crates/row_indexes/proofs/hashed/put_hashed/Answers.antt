use Rattle.std.proofs.Common.{◌∙◌, sym, ap}
use Rattle.std.specs.Ordering.{nat_cmp}
use Rattle.std.specs.Cmp.{nat_cmp_total}
use Rattle.std.specs.FinMap.{contains_key, remove}
use Rattle.keyed_rows.specs.Rows.{map_of}
use Rattle.keyed_rows.proofs.Finite.{kept_row}
use Rattle.row_indexes.specs.Numbers.{number_of}
use Rattle.row_indexes.proofs.ByHash.{index_kept_put, index_new_put, index_same, undone, when_ok, when_err}
use Rattle.keyed_rows.proofs.Puts.{memory_after_ok}
use Rattle.row_indexes.proofs.hashed.put_hashed.Goals as goal

pub returns-then-contains_key-clause-indexed : goal.returns-then-contains_key-clause-indexed
returns-then-contains_key-clause-indexed g c =
    index_kept_put g.R.Keyed.key_of g.R.Hashed.hash_of _ _ c.requires.indexed c.args.value c.requires.fits _ c.put.result c.put.ensures.ok c.put.ensures.err
    (ap (contains_key (map_of nat_cmp c.args.rows.now)) (sym c.key.ensures) ∙ kept_row nat_cmp_total c.args.rows.now c.key.result.now ∙ sym c.contains_key.ensures ∙ c.if-contains_key.true)

pub returns-then-is_ok-clause-indexed : goal.returns-then-is_ok-clause-indexed
returns-then-is_ok-clause-indexed g c =
    index_new_put g.R.Keyed.key_of g.R.Hashed.hash_of _ _ c.requires.indexed c.args.value _ _ _ _ c.in_ok-put.ensures.ok
    (c.number_of-number.ensures ∙ ap number_of (c.as_bytes.ensures ∙ c.hash.ensures)) c.key.ensures
    (when_ok c.note_id.result (sym c.is_ok.ensures.value ∙ c.if-is_ok.true) c.note_id.ensures.ok)
    (ap (contains_key (map_of nat_cmp c.args.rows.now)) (sym c.key.ensures) ∙ kept_row nat_cmp_total c.args.rows.now c.key.result.now ∙ sym c.contains_key.ensures ∙ c.if-contains_key.false)

pub returns-clause-answer : goal.returns-clause-answer
returns-clause-answer g c =
    memory_after_ok _ _
    (ap (contains_key (map_of nat_cmp c.args.rows.now)) (sym c.key.ensures) ∙ kept_row nat_cmp_total c.args.rows.now c.key.result.now ∙ sym c.contains_key.ensures ∙ c.if-contains_key.false)
    c.args.room c.in_ok-put.ensures.answer

pub returns-clause-err : goal.returns-clause-err
returns-clause-err g c =
    undone (map_of nat_cmp c.args.rows.now) (map_of nat_cmp c.put-2.new.rows) _ (g.R.Keyed.key_of c.args.value) c.args.value c.in_ok-put.ensures.ok
    (c.remove_row.ensures.removed ∙ ap (remove (map_of nat_cmp c.put-2.new.rows)) c.key.ensures)
    (ap (contains_key (map_of nat_cmp c.args.rows.now)) (sym c.key.ensures) ∙ kept_row nat_cmp_total c.args.rows.now c.key.result.now ∙ sym c.contains_key.ensures ∙ c.if-contains_key.false)

pub returns-clause-indexed : goal.returns-clause-indexed
returns-clause-indexed g c = index_same g.R.Keyed.key_of g.R.Hashed.hash_of _ _ c.requires.indexed _ _ (returns-clause-err g c) (when_err c.note_id.result (sym c.is_ok.ensures.value ∙ c.if-is_ok.false) c.note_id.ensures.err)
