use Rattle.std.proofs.Common.{List, ℕ, ◌∙◌, subst, sym, arith}
use Rattle.server_life.specs.LeaseIndex.{AreServersAt}
use Rattle.server_life.proofs.ByServer.{removed, there}
use Rattle.server_life.proofs.by_server.remove_server.Goals as goal

pub returns-then-at-len-clause-places : goal.returns-then-at-len-clause-places
returns-then-at-len-clause-places c = λ es a some.
    let seen = subst (λ (ps : List ℕ). AreServersAt c.args.leased.now ps es) (sym c.as_slice.ensures.value) a in
    c.remove-place.ensures.items ∙ removed c.args.leased.now c.args.places.now.items es c.args.key.now c.rank-at.result a (c.rank-at.ensures.rank es seen) some

pub returns-else-at-len-clause-places : goal.returns-else-at-len-clause-places
returns-else-at-len-clause-places c = λ es a some.
    let seen = subst (λ (ps : List ℕ). AreServersAt c.args.leased.now ps es) (sym c.as_slice.ensures.value) a in
    let within = there c.args.leased.now c.args.places.now.items es c.args.key.now c.rank-at.result a (c.rank-at.ensures.rank es seen) some in
    absurd (omega (arith, within))
