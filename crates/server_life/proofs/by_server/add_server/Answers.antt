use Rattle.std.proofs.Common.{List, ℕ, ◌∙◌, ap, subst, sym, cond}
use Rattle.std.specs.List.{insert}
use Rattle.server_life.specs.LeaseIndex.{AreServersAt}
use Rattle.server_life.proofs.ByServer.{inserted}
use Rattle.server_life.proofs.by_server.add_server.Goals as goal

pub returns-clause-places : goal.returns-clause-places
returns-clause-places c = λ es a none.
    let seen = subst (λ (ps : List ℕ). AreServersAt c.args.leased.now ps es) (sym c.as_slice.ensures.value) a in
    c.insert-room.ensures.items
    ∙ (ap (λ b. cond b (insert c.args.places.now.items c.rank-at.result c.args.place) c.args.places.now.items) (c.insert-room.ensures.succeeds c.requires.room)
    ∙ inserted c.args.leased.now c.args.places.now.items es c.args.key.now c.args.place c.rank-at.result a (c.rank-at.ensures.rank es seen) none)
