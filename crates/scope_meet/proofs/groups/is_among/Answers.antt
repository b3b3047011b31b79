use Rattle.std.proofs.Common.{◌∙◌}
use Rattle.scope_meet.proofs.NamesMet.{searched}
use Rattle.scope_meet.proofs.groups.is_among.Goals as goal

pub returns : goal.returns
returns g c = c.is_ok.ensures.value ∙ searched g.met.T.Ord.total c.args.items.now c.args.sought.now c.binary_search.result c.binary_search.ensures.bound c.binary_search.ensures.position c.requires
