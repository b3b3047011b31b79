use Rattle.roles.proofs.SharesOf.{none_received}
use Rattle.roles.proofs.held.push_shares.Goals as goal

pub returns-in_default : goal.returns-in_default
returns-in_default c = none_received c.args.t.now c.args.owner.now c.in_default.field-0 c.args.scopes.now.items c.in_default.is
