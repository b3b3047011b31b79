use Rattle.std.specs.FinMap as map
use Rattle.scope_meet.proofs.GrantMeets.{nothing_met}
use Rattle.scope_meet.proofs.meets.add_meets.Goals as goal

pub returns-in-None-clause-met : goal.returns-in-None-clause-met
returns-in-None-clause-met g c = nothing_met (g.M.Members.context c.args.members.now) c.args.action.now (map.keys c.args.filters.now) c.args.b.now c.args.both.now c.in-None.ensures
