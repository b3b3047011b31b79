use Rattle.std.proofs.Common.{◌≡◌, Option, Some, None, is_some, true, sym, ap, ◌∙◌}
use Rattle.route_table.proofs.RowLemmas.{listed_there, some_there}
use Rattle.route_table.proofs.lookups.find_target.Goals as goal

not_some : {A : Type 0} (o : Option A) → o ≡ None → is_some o ≡ true → ⊥
not_some None e h = cc
not_some (Some x) e h = cc

pub returns-in_ok-target-in-Some-route : goal.returns-in_ok-target-in-Some-route
returns-in_ok-target-in-Some-route c =
    let best = c.in-Some.ensures in
    record {
      key = best.0;
      route = c.in-Some-route.route;
      place = best.3;
      is_best = record {
        rest = best.1;
        is_prefix = best.2;
        is_listed = listed_there c.args.rows.now c.in-Some.at c.row_at.result.now c.requires.rise c.row_at.ensures best.0 best.3 ∙ c.in-Some-route.is;
        is_longest = best.4;
      };
      is_target = c.in_ok-target-in-Some-route.ensures;
    }

pub returns-in-None-route : goal.returns-in-None-route
returns-in-None-route c =
    let best = c.in-Some.ensures in
    absurd (not_some c.row_at.result.now.route c.in-None-route.is (some_there c.args.rows.now c.in-Some.at c.row_at.result.now c.requires.rise c.row_at.ensures best.0 best.3))
