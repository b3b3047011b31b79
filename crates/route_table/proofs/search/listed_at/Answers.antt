use Rattle.std.proofs.Common.{◌≡◌, Option, Some, None, is_some, false, refl, sym, ap, ◌∙◌}
use Rattle.route_table.specs.Table.{route_of}
use Rattle.route_table.proofs.RowLemmas.{row_there, row_absent}
use Rattle.route_table.proofs.search.listed_at.Goals as goal

none_there : {A : Type 0} (o : Option A) → is_some o ≡ false → o ≡ None
none_there None h = refl
none_there (Some x) h = cc

pub returns-then-is_some : goal.returns-then-is_some
returns-then-is_some c = record {
  within = c.in-Ok.ensures.found.within;
  same = c.in-Ok.ensures.found.same;
  there = λ d. ap (λ v. is_some v.route) (c.row_at.ensures d) ∙ (sym c.is_some.ensures ∙ c.if-is_some.true);
}

pub returns-else-is_some : goal.returns-else-is_some
returns-else-is_some c =
    ap route_of (row_there c.args.rows.now c.in-Ok.at c.row_at.result.now c.requires.rise c.row_at.ensures c.args.path.now c.in-Ok.ensures.found)
    ∙ none_there c.row_at.result.now.route (sym c.is_some.ensures ∙ c.if-is_some.false)

pub returns-in-Err : goal.returns-in-Err
returns-in-Err c = ap route_of (row_absent c.args.rows.now c.args.path.now c.in-Err.field-0 c.in-Err.ensures.absent)
