use Rattle.std.proofs.Common.{List, Bool, sym, ap, ◌∙◌}
use Rattle.std.specs.FinMap as map
use Rattle.scope_filters.specs.declared.filter.Filter.{Filter}
use Rattle.scope_meet.proofs.Contained.{holds_whole}
use Rattle.scope_meet.proofs.Least.{least_from, least_told}
use Rattle.scope_meet.proofs.inside.least_outside.Goals as goal

pub returns : goal.returns
returns g c =
    let held : Filter → Bool = holds_whole (g.M.Members.context c.args.members.now) c.args.b.now c.args.action.now in
    least_told held c.loop-filter.least (map.keys c.args.filters.now)
    (sym (ap (λ (fs : List Filter). least_from held c.loop-filter.least fs) c.in-None.ensures.steps.0) ∙ c.loop-filter.invariant)
