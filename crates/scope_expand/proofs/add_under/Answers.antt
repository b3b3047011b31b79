use Rattle.scope_expand.proofs.Meanings.{covers_under, covers_without}
use Rattle.scope_expand.proofs.add_under.Goals as goal

pub returns-in-Some : goal.returns-in-Some
returns-in-Some c =
    covers_under c.args.table.now c.args.action.now c.args.filter.now c.in-Some.filter c.covered.result.now c.args.grant.now c.add_each.new.grant c.add_each.result c.in-Some.is
    c.covered.ensures c.add_each.ensures

pub returns-in-None : goal.returns-in-None
returns-in-None c = covers_without c.args.table.now c.args.action.now c.args.filter.now c.args.grant.now c.in-None.is
