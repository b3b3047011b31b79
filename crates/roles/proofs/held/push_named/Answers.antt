use Rattle.std.specs.FinMap.{get}
use Rattle.roles.specs.Naming.{role_scopes}
use Rattle.roles.proofs.Walks.{flat_more, flat_all}
use Rattle.roles.proofs.held.push_named.Goals as goal

pub loop-name-preserved : goal.loop-name-preserved
loop-name-preserved c =
    flat_more (λ name. role_scopes (get c.args.t.now.roles name)) c.args.scopes.now.items c.loop-name.scopes.items _ c.args.names.now c.loop-name.name-index c.name-item.result c.name-item.is c.loop-name-test.true c.loop-name.invariant c.in_ok-push_role.ensures

pub returns : goal.returns
returns c = flat_all (λ name. role_scopes (get c.args.t.now.roles name)) c.args.scopes.now.items _ c.args.names.now c.loop-name.name-index c.loop-name-test.false c.loop-name.invariant
