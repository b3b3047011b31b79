use Rattle.std.proofs.Common.{◌≡◌, ℕ, Option, Some, None, nat_lt, refl, sym, ap, ◌∙◌, arith}
use Rattle.std.specs.FinMap.{insert}
use Rattle.route_table.specs.Path.{decoded_parts}
use Rattle.route_table.specs.Rows.{rows_of}
use Rattle.route_table.specs.Table.{seen_of, seen_after, new_route}
use Rattle.route_table.proofs.RowLemmas.{row_absent}
use Rattle.route_table.proofs.CountLemmas.{len_rows}
use Rattle.route_table.proofs.RefusalLemmas.{refused_full, refused_no_more, refused_kept, stale_answer}
use Rattle.route_table.proofs.rows.put_route.Goals as goal

pub returns-then-len-limit-clause-answer : goal.returns-then-len-limit-clause-answer
returns-then-len-limit-clause-answer c =
    let gap = rw c.as_slice.ensures.value at c.in-Err.ensures.absent in
    let count = len_rows c.args.rows.now.items c.requires.rows.rise in
    refused_full nat_lt c.args.limit (rows_of c.args.rows.now.items) (decoded_parts c.args.path.now) c.args.entry.serial
    (row_absent c.args.rows.now.items c.args.path.now c.in-Err.at gap) (omega (arith, count, c.len.ensures, c.if-len-limit.true))

pub returns-in-Ok-add_route-clause-answer : goal.returns-in-Ok-add_route-clause-answer
returns-in-Ok-add_route-clause-answer c =
    let gap = rw c.as_slice.ensures.value at c.in-Err.ensures.absent in
    let count = len_rows c.args.rows.now.items c.requires.rows.rise in
    refused_no_more nat_lt c.args.limit (rows_of c.args.rows.now.items) (decoded_parts c.args.path.now) c.args.entry.serial
    (row_absent c.args.rows.now.items c.args.path.now c.in-Err.at gap) (omega (arith, count, c.len.ensures, c.if-len-limit.false))

pub returns-in-Err-add_route-clause-answer : goal.returns-in-Err-add_route-clause-answer
returns-in-Err-add_route-clause-answer c =
    let gap = rw c.as_slice.ensures.value at c.in-Err.ensures.absent in
    let count = len_rows c.args.rows.now.items c.requires.rows.rise in
    refused_no_more nat_lt c.args.limit (rows_of c.args.rows.now.items) (decoded_parts c.args.path.now) c.args.entry.serial
    (row_absent c.args.rows.now.items c.args.path.now c.in-Err.at gap) (omega (arith, count, c.len.ensures, c.if-len-limit.false))

pub returns-in-Ok-add_route-clause-ok : goal.returns-in-Ok-add_route-clause-ok
returns-in-Ok-add_route-clause-ok c =
    let gap = rw c.as_slice.ensures.value at c.in-Err.ensures.absent in
    let none = row_absent c.args.rows.now.items c.args.path.now c.in-Err.at gap in
    c.in-Ok-add_route.ensures.ok
    ∙ ap (λ (n : Option ℕ). insert (rows_of c.args.rows.now.items) (decoded_parts c.args.path.now) (record { route = Some (new_route (decoded_parts c.args.path.now) c.args.entry c.args.now); seen = n }))
    (seen_first c.args.entry.serial ∙ ap (λ o. seen_after c.args.entry.serial (seen_of o)) (sym none))
  where
    seen_first : (n : Option ℕ) → n ≡ seen_after n None
    seen_first None = refl
    seen_first (Some g) = refl

pub returns-in-Some-clause-answer : goal.returns-in-Some-clause-answer
returns-in-Some-clause-answer c =
    stale_answer (Unit {0}) nat_lt c.args.entry.serial c.seen_at-seen.result c.in-Some.refusal _ c.in-Some.ensures
    (refused_kept nat_lt c.args.limit (rows_of c.args.rows.now.items) (decoded_parts c.args.path.now) c.args.entry.serial _ c.seen_at-seen.ensures.1)

pub returns-in-Ok-replace_route-clause-answer : goal.returns-in-Ok-replace_route-clause-answer
returns-in-Ok-replace_route-clause-answer c =
    refused_kept nat_lt c.args.limit (rows_of c.args.rows.now.items) (decoded_parts c.args.path.now) c.args.entry.serial _ c.seen_at-seen.ensures.1 ∙ sym c.in-None.ensures

pub returns-in-Err-replace_route-clause-answer : goal.returns-in-Err-replace_route-clause-answer
returns-in-Err-replace_route-clause-answer c =
    refused_kept nat_lt c.args.limit (rows_of c.args.rows.now.items) (decoded_parts c.args.path.now) c.args.entry.serial _ c.seen_at-seen.ensures.1 ∙ sym c.in-None.ensures

pub returns-in-Ok-replace_route-clause-ok : goal.returns-in-Ok-replace_route-clause-ok
returns-in-Ok-replace_route-clause-ok c =
    c.in-Ok-replace_route.ensures.ok
    ∙ ap (λ (n : Option ℕ). insert (rows_of c.args.rows.now.items) (decoded_parts c.args.path.now) (record { route = Some (new_route (decoded_parts c.args.path.now) c.args.entry c.args.now); seen = n }))
    (c.seen_after.ensures ∙ ap (λ o. seen_after c.args.entry.serial (seen_of o)) (sym c.seen_at-seen.ensures.1))
