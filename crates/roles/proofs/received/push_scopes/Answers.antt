use Rattle.std.specs.FinMap.{get}
use Rattle.roles.specs.Received.{share_scopes}
use Rattle.roles.proofs.Walks.{flat_more, flat_all}
use Rattle.roles.proofs.received.push_scopes.Goals as goal

pub loop-key-preserved : goal.loop-key-preserved
loop-key-preserved c =
    flat_more (λ key. share_scopes (get c.args.t.now.shares key)) c.args.scopes.now.items c.loop-key.scopes.items _ c.args.keys.now c.loop-key.key-index c.key-item.result c.key-item.is c.loop-key-test.true c.loop-key.invariant c.in_ok-push_share.ensures

pub returns : goal.returns
returns c = flat_all (λ key. share_scopes (get c.args.t.now.shares key)) c.args.scopes.now.items _ c.args.keys.now c.loop-key.key-index c.loop-key-test.false c.loop-key.invariant
