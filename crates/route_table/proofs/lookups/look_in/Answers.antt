use Rattle.std.proofs.Common.{ℕ, List, Option, subst}
use Rattle.route_table.specs.Path.{decoded_parts}
use Rattle.route_table.specs.Search.{IsTargetFound}
use Rattle.route_table.proofs.lookups.look_in.Goals as goal

pub touch-requires-clause-at : goal.touch-requires-clause-at
touch-requires-clause-at c =
    let given = rw c.as_slice.ensures.value at c.in_ok-found.ensures in
    let found = subst (λ (o : Option (ℕ × List ℕ)). IsTargetFound c.args.rows.now.items (decoded_parts c.args.path.now) o) c.in-Some.is given in
    found.place.within

pub returns-in-Some-clause-looked : goal.returns-in-Some-clause-looked
returns-in-Some-clause-looked c =
    let given = rw c.as_slice.ensures.value at c.in_ok-found.ensures in
    let found = subst (λ (o : Option (ℕ × List ℕ)). IsTargetFound c.args.rows.now.items (decoded_parts c.args.path.now) o) c.in-Some.is given in
    record {
      at = found.key;
      route = found.route;
      is_best = found.is_best;
      is_target = found.is_target;
      after = c.touch.ensures.changed found.key found.route found.place found.is_best.is_listed;
    }
