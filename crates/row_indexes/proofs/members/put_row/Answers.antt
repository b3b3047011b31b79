use Rattle.std.proofs.Common.{◌∙◌, Some, None, is_some, sym, ap}
use Rattle.std.specs.FinMap as map
use Rattle.keyed_rows.specs.Rows.{map_of}
use Rattle.keyed_rows.proofs.Finite.{lent_row, written_row}
use Rattle.keyed_rows.proofs.Puts.{kept_answer}
use Rattle.row_indexes.proofs.members.put_row.Goals as goal

pub returns-in-Some-clause-answer : goal.returns-in-Some-clause-answer
returns-in-Some-clause-answer g c =
    kept_answer c.args.room (map_of g.K.Ord.cmp c.args.rows.now) (g.R.Keyed.key_of c.args.value)
    (ap (map.contains_key (map_of g.K.Ord.cmp c.args.rows.now)) (sym c.key.ensures) ∙ ap is_some (lent_row g.met.K.Ord.total c.args.rows.now c.key.result.now (Some c.in-Some.row.now) c.in-Some.ensures.value))

pub returns-in-Some-clause-ok : goal.returns-in-Some-clause-ok
returns-in-Some-clause-ok g c =
    written_row g.met.K.Ord.total g.met.K.Key.exact c.args.rows.now (c.get_mut.follows.lender c.replace.new.dest) c.key.result.now c.in-Some.row.now c.replace.new.dest (c.get_mut.follows.holds c.replace.new.dest) c.in-Some.ensures.value
    ∙ ap (map.insert (map_of g.K.Ord.cmp c.args.rows.now) c.key.result.now) c.replace.ensures.after
    ∙ ap (λ key. map.insert (map_of g.K.Ord.cmp c.args.rows.now) key c.args.value) c.key.ensures

pub returns-in-Some-clause-old : goal.returns-in-Some-clause-old
returns-in-Some-clause-old g c =
    ap Some c.replace.ensures.value ∙ sym (lent_row g.met.K.Ord.total c.args.rows.now c.key.result.now (Some c.in-Some.row.now) c.in-Some.ensures.value)
    ∙ ap (map.get (map_of g.K.Ord.cmp c.args.rows.now)) c.key.ensures

pub returns-clause-old : goal.returns-clause-old
returns-clause-old g c =
    sym (lent_row g.met.K.Ord.total c.args.rows.now c.key.result.now None c.in_default.ensures.value) ∙ ap (map.get (map_of g.K.Ord.cmp c.args.rows.now)) c.key.ensures
