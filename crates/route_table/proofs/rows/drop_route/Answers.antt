use Rattle.std.proofs.Common.{◌≡◌, Result, Err, Bool, Some, is_some, nat_le, sym, ap, ◌∙◌, arith}
use Rattle.route_table.specs.Path.{decoded_parts}
use Rattle.route_table.specs.Rows.{rows_of}
use Rattle.route_table.specs.Table.{route_of, seen_of, seen_after, without, without_route, drop_refusal}
use Rattle.route_table.proofs.SearchLemmas.{segments_total, segments_exact}
use Rattle.route_table.proofs.PlacedLemmas.{removed_absent}
use Rattle.route_table.proofs.RowLemmas.{row_absent}
use Rattle.route_table.proofs.CountLemmas.{len_rows}
use Rattle.route_table.proofs.RefusalLemmas.{refused_full, refused_no_more, dropped_kept, stale_answer, stale_no_memory}
use Rattle.route_table.proofs.rows.drop_route.Goals as goal

pub returns-then-len-limit-clause-answer : goal.returns-then-len-limit-clause-answer
returns-then-len-limit-clause-answer c =
    let gap = rw c.as_slice.ensures.value at c.in-Err.ensures.absent in
    let count = len_rows c.args.rows.now.items c.requires.rows.rise in
    ap (drop_refusal c.args.limit (rows_of c.args.rows.now.items) (decoded_parts c.args.path.now)) c.in-Some-serial.is
    ∙ refused_full nat_le c.args.limit (rows_of c.args.rows.now.items) (decoded_parts c.args.path.now) (Some c.in-Some-serial.given)
    (row_absent c.args.rows.now.items c.args.path.now c.in-Err.at gap) (omega (arith, count, c.len.ensures, c.if-len-limit.true))

pub returns-in-Ok-add_serial-clause-answer : goal.returns-in-Ok-add_serial-clause-answer
returns-in-Ok-add_serial-clause-answer c =
    let gap = rw c.as_slice.ensures.value at c.in-Err.ensures.absent in
    let count = len_rows c.args.rows.now.items c.requires.rows.rise in
    ap (drop_refusal c.args.limit (rows_of c.args.rows.now.items) (decoded_parts c.args.path.now)) c.in-Some-serial.is
    ∙ refused_no_more nat_le c.args.limit (rows_of c.args.rows.now.items) (decoded_parts c.args.path.now) (Some c.in-Some-serial.given)
    (row_absent c.args.rows.now.items c.args.path.now c.in-Err.at gap) (omega (arith, count, c.len.ensures, c.if-len-limit.false))

pub returns-in-Err-add_serial-clause-answer : goal.returns-in-Err-add_serial-clause-answer
returns-in-Err-add_serial-clause-answer c =
    let gap = rw c.as_slice.ensures.value at c.in-Err.ensures.absent in
    let count = len_rows c.args.rows.now.items c.requires.rows.rise in
    ap (drop_refusal c.args.limit (rows_of c.args.rows.now.items) (decoded_parts c.args.path.now)) c.in-Some-serial.is
    ∙ refused_no_more nat_le c.args.limit (rows_of c.args.rows.now.items) (decoded_parts c.args.path.now) (Some c.in-Some-serial.given)
    (row_absent c.args.rows.now.items c.args.path.now c.in-Err.at gap) (omega (arith, count, c.len.ensures, c.if-len-limit.false))

pub returns-in-Ok-add_serial-clause-listed : goal.returns-in-Ok-add_serial-clause-listed
returns-in-Ok-add_serial-clause-listed c =
    let gap = rw c.as_slice.ensures.value at c.in-Err.ensures.absent in
    ap (λ o. is_some (route_of o)) (sym (row_absent c.args.rows.now.items c.args.path.now c.in-Err.at gap))

pub returns-in-Some-clause-answer : goal.returns-in-Some-clause-answer
returns-in-Some-clause-answer c =
    let row = c.seen_at-seen.ensures.1 in
    stale_answer Bool nat_le c.args.serial c.seen_at-seen.result c.in-Some.refusal _ c.in-Some.ensures
    (dropped_kept c.args.limit (rows_of c.args.rows.now.items) (decoded_parts c.args.path.now) c.args.serial _ row)

pub returns-in-None-clause-answer : goal.returns-in-None-clause-answer
returns-in-None-clause-answer c =
    let row = c.seen_at-seen.ensures.1 in
    dropped_kept c.args.limit (rows_of c.args.rows.now.items) (decoded_parts c.args.path.now) c.args.serial _ row ∙ sym c.in-None.ensures

pub returns-in-None-clause-ok : goal.returns-in-None-clause-ok
returns-in-None-clause-ok c =
    let row = c.seen_at-seen.ensures.1 in
    c.clear_route.ensures.changed
    ∙ ap (without_route (rows_of c.args.rows.now.items) (decoded_parts c.args.path.now)) (c.seen_after.ensures ∙ ap (λ o. seen_after c.args.serial (seen_of o)) (sym row))

pub returns-in-None-serial-clause-listed : goal.returns-in-None-serial-clause-listed
returns-in-None-serial-clause-listed c =
    let gap = rw c.as_slice.ensures.value at c.in-Err.ensures.absent in
    ap (λ o. is_some (route_of o)) (sym (row_absent c.args.rows.now.items c.args.path.now c.in-Err.at gap))

pub returns-in-None-serial-clause-ok : goal.returns-in-None-serial-clause-ok
returns-in-None-serial-clause-ok c =
    let gap = rw c.as_slice.ensures.value at c.in-Err.ensures.absent in
    let none = row_absent c.args.rows.now.items c.args.path.now c.in-Err.at gap in
    sym (ap (without (rows_of c.args.rows.now.items) (decoded_parts c.args.path.now)) c.in-None-serial.is
    ∙ (ap (λ o. without_route (rows_of c.args.rows.now.items) (decoded_parts c.args.path.now) (seen_of o)) none
    ∙ removed_absent segments_total segments_exact (rows_of c.args.rows.now.items) (decoded_parts c.args.path.now) none))

pub returns-in-Some-clause-wanting : goal.returns-in-Some-clause-wanting
returns-in-Some-clause-wanting c e = absurd (stale_no_memory nat_le c.args.serial c.seen_at-seen.result c.in-Some.refusal c.in-Some.ensures (same_err e))
  where
    same_err : {A E : Type 0} {x y : E} → ◌≡◌ {A = Result A E} (Err x) (Err y) → x ≡ y
    same_err h = cc

pub returns-in-Err-add_serial-clause-wanting : goal.returns-in-Err-add_serial-clause-wanting
returns-in-Err-add_serial-clause-wanting c e =
    let gap = rw c.as_slice.ensures.value at c.in-Err.ensures.absent in
    (row_absent c.args.rows.now.items c.args.path.now c.in-Err.at gap, ap is_some c.in-Some-serial.is)
