use Rattle.std.proofs.Common.{ap, subst, sym}
use mathlib.Core.List.{IsPrefix}
use Rattle.desk.specs.OwnEntries.{Apart}
use Rattle.desk.proofs.Prefixes.{agree_longer}
use Rattle.desk.proofs.desk.Desk.join.Goals as goal

pub returns-clause-apart : goal.returns-clause-apart
returns-clause-apart g c =
    subst (λ ps. Apart ps c.args.other.mine) (ap (λ k. k.mine) c.pass.view_is) (subst (λ qs. Apart c.pass.inside.seat.me.0.mine qs) (ap (λ k. k.mine) c.other.view_is) c.join.ensures.apart)

pub returns-clause-begins : goal.returns-clause-begins
returns-clause-begins g c = let now = c.join.new.seat.me.0.seen in
    subst (λ xs. IsPrefix xs now) (ap (λ k. k.seen) c.pass.view_is)
    (subst (λ zs. IsPrefix c.pass.inside.seat.me.0.seen zs) (sym (ap (λ m. m.0.seen) c.join.ensures.both)) (agree_longer _ _ c.join.ensures.agree).0)

pub returns-clause-other_begins : goal.returns-clause-other_begins
returns-clause-other_begins g c = let now = c.join.new.seat.me.0.seen in
    subst (λ xs. IsPrefix xs now) (ap (λ k. k.seen) c.other.view_is)
    (subst (λ zs. IsPrefix c.other.inside.seat.me.0.seen zs) (sym (ap (λ m. m.0.seen) c.join.ensures.both)) (agree_longer _ _ c.join.ensures.agree).1)
