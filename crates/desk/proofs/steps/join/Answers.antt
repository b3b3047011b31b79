use Rattle.std.proofs.Common.{rules, ap, subst, ◌∙◌}
use Rattle.desk.specs.Seats.{settled_as}
use Rattle.desk.specs.OwnEntries.{Agree, Apart}
use Rattle.desk.proofs.Turning.{joins, settles}
use Rattle.desk.proofs.steps.join.Goals as goal

pub join_seat-requires : goal.join_seat-requires
join_seat-requires g c = (search rules, search rules, search rules, search rules, joins _ _ _ _ _ _ _ c.requires.idle.0.0 c.requires.idle.1.0)

pub load-requires : goal.load-requires
load-requires g c = (search rules, search rules, settles _ _ _ _ _ _ _ _ (ap (λ m. m.0.stage) c.join_seat.ensures.2))

pub returns-clause-both : goal.returns-clause-both
returns-clause-both g c = let e = c.join_seat.ensures.2 in let o = c.args.other.me.0 in let t = c.load.ensures.2 o.seen o.mine (ap (λ m. m.0.stage) e) in
    t.0 ∙ (λ i. (settled_as o.seen o.mine (e i).0, (ap (λ m. m.1) e ∙ c.requires.idle.0.1) i))

pub returns-clause-agree : goal.returns-clause-agree
returns-clause-agree g c = let e = c.join_seat.ensures.2 in let o = c.args.other.me.0 in let t = c.load.ensures.2 o.seen o.mine (ap (λ m. m.0.stage) e) in
    subst (λ l. Agree l o.seen) (ap (λ m. m.0.seen) e) t.1

pub returns-clause-apart : goal.returns-clause-apart
returns-clause-apart g c = let e = c.join_seat.ensures.2 in let o = c.args.other.me.0 in let t = c.load.ensures.2 o.seen o.mine (ap (λ m. m.0.stage) e) in
    subst (λ l. Apart l o.mine) (ap (λ m. m.0.mine) e) t.2

pub returns-clause-ordered : goal.returns-clause-ordered
returns-clause-ordered g c = let e = c.join_seat.ensures.2 in let o = c.args.other.me.0 in
    (c.load.ensures.2 o.seen o.mine (ap (λ m. m.0.stage) e)).3
