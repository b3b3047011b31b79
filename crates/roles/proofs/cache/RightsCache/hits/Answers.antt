use Rattle.std.proofs.Common.{subst}
use Rattle.roles.specs.Looks.{IsApart}
use Rattle.roles.proofs.cache.RightsCache.hits.Goals as goal

pub returns-clause-apart : goal.returns-clause-apart
returns-clause-apart c = subst IsApart c.self.view_is c.self.invariant
