use Rattle.std.proofs.Common.{ap, sym, ◌∙◌}
use Rattle.std.specs.FinMap as map
use Rattle.scope_filters.specs.FilterSets.{in_front}
use Rattle.scope_filters.proofs.FilterRows.{keys_of_set}
use Rattle.scope_filters.proofs.grant.Filters.iter.Goals as goal

pub returns-clause-items : goal.returns-clause-items
returns-clause-items c =
    ap (λ o. in_front o c.keys.result) c.as_ref.ensures.value ∙ ap (in_front c.self.inside.first) c.keys.ensures.rest
    ∙ sym (keys_of_set c.self.inside.first c.self.inside.others c.self.invariant) ∙ ap map.keys c.self.view_is
