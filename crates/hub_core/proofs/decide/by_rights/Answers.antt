use Rattle.hub_core.proofs.Looking.{look_may, look_may_since, current_after, looked_after}
use Rattle.hub_core.proofs.decide.by_rights.Goals as goal

pub look_since-requires-clause-right : goal.look_since-requires-clause-right
look_since-requires-clause-right c = look_may c.args.rights.now c.args.hub.now.tables c.tables.result.now c.args.stamps.since c.args.stamps.stamp c.args.token.now c.tables.ensures c.requires.current c.requires.kept

pub look_since-requires-clause-since : goal.look_since-requires-clause-since
look_since-requires-clause-since c = look_may_since c.args.rights.now c.args.hub.now.tables c.tables.result.now c.args.stamps.since c.args.stamps.stamp c.args.token.now c.tables.ensures c.requires.current c.requires.kept

pub returns-in_err-grant-clause-current : goal.returns-in_err-grant-clause-current
returns-in_err-grant-clause-current c =
    current_after c.args.rights.now c.look_since.follows.lender-at-none c.args.hub.now.tables c.tables.result.now c.args.stamps.since c.args.stamps.stamp c.args.token.now c.look_since.result
    c.tables.ensures c.requires.current c.requires.numbered c.requires.kept c.look_since.ensures.admits c.look_since.follows.holds-at-none.0

pub judged-requires-clause-admits : goal.judged-requires-clause-admits
judged-requires-clause-admits c = rw c.tables.ensures at c.in_ok-grant.ensures.admits

pub judged-requires-clause-holds : goal.judged-requires-clause-holds
judged-requires-clause-holds c = rw c.tables.ensures at c.in_ok-grant.ensures.holds

pub returns-clause-looked : goal.returns-clause-looked
returns-clause-looked c =
    looked_after c.args.rights.now c.look_since.follows.lender-at-none c.args.token.now c.args.stamps.stamp c.look_since.result c.in_ok-grant.grant c.judged.result
    c.in_ok-grant.was c.look_since.follows.holds-at-none.0

pub returns-clause-current : goal.returns-clause-current
returns-clause-current c =
    current_after c.args.rights.now c.look_since.follows.lender-at-none c.args.hub.now.tables c.tables.result.now c.args.stamps.since c.args.stamps.stamp c.args.token.now c.look_since.result
    c.tables.ensures c.requires.current c.requires.numbered c.requires.kept c.look_since.ensures.admits c.look_since.follows.holds-at-none.0
