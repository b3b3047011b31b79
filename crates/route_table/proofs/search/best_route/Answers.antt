use Rattle.std.proofs.Common.{◌≡◌, Option, Some, None, is_some, true, sym, ap, ◌∙◌}
use Rattle.route_table.proofs.RowLemmas.{listed_there, some_there}
use Rattle.route_table.proofs.search.best_route.Goals as goal

not_some : {A : Type 0} (o : Option A) → o ≡ None → is_some o ≡ true → ⊥
not_some None e h = cc
not_some (Some x) e h = cc

pub returns-in-Some-route : goal.returns-in-Some-route
returns-in-Some-route c =
    let best = c.in-Some.ensures in (
      best.0,
      record {
        rest = best.1;
        is_prefix = best.2;
        is_listed = listed_there c.args.rows.now c.in-Some.at c.row_at.result.now c.requires.rise c.row_at.ensures best.0 best.3 ∙ c.in-Some-route.is;
        is_longest = best.4;
      },
    )

pub returns-in-None-route : goal.returns-in-None-route
returns-in-None-route c =
    let best = c.in-Some.ensures in
    absurd (not_some c.row_at.result.now.route c.in-None-route.is (some_there c.args.rows.now c.in-Some.at c.row_at.result.now c.requires.rise c.row_at.ensures best.0 best.3))
