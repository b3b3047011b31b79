use Rattle.std.proofs.Common.{◌∙◌, arith}
use Rattle.server_life.proofs.ByServer.{found, unfound}
use Rattle.server_life.proofs.by_server.place_of.Goals as goal

pub returns-then-at-places : goal.returns-then-at-places
returns-then-at-places c = λ es a.
    c.place_if.ensures ∙ found c.args.leased.now c.args.places.now es c.args.key.now c.rank-at.result 0 a (c.rank-at.ensures.rank es a) c.if-at-places.true

pub returns-else-at-places : goal.returns-else-at-places
returns-else-at-places c = λ es a. unfound c.args.leased.now c.args.places.now es c.args.key.now c.rank-at.result a (c.rank-at.ensures.rank es a) (omega arith)
