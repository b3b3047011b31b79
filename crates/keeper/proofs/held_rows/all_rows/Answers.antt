use Rattle.std.proofs.Common.{◌≡◌, ◌++◌, [], ◌∙◌, ap, sym, append-nil}
use Rattle.std.specs.Map.Iter.{deref_pair}
use Rattle.std.proofs.lemmas.Map.Iter.{rest_all}
use Rattle.keeper.specs.Held.{rows_in}
use Rattle.keeper.proofs.Listed.{places_listed}
use Rattle.keeper.proofs.held_rows.all_rows.Goals as goal

pub returns : goal.returns
returns c =
    let left : c.loop-at.at-iterator ≡ [] = rest_all deref_pair _ _ _ c.in-None.is c.next.ensures.steps in
    places_listed c.args.rows.now c.into_iter-at-iterator.ensures.into_iter_gives.5 _
    (sym (append-nil c.loop-at.all.items) ∙ ap (λ es. c.loop-at.all.items ++ rows_in es) (sym left) ∙ c.loop-at.invariant)
