use Rattle.keyed_rows.proofs.Puts.{replaced, handed_back}
use Rattle.keyed_rows.proofs.keyed.replace.Goals as goal

pub returns-in-Some-clause-answer : goal.returns-in-Some-clause-answer
returns-in-Some-clause-answer g c =
    replaced g.met.K.Ord.total g.met.K.Key.exact c.args.rows.now (c.get_mut.follows.lender c.args.value) c.key.result.now _ c.in-Some.row.now c.args.value c.key.ensures (c.get_mut.follows.holds c.args.value) c.in-Some.ensures.value

pub returns-in-None-clause-answer : goal.returns-in-None-clause-answer
returns-in-None-clause-answer g c =
    handed_back g.met.K.Ord.total c.args.rows.now c.get_mut.follows.lender-at-none c.key.result.now _ c.args.value c.key.ensures c.get_mut.follows.holds-at-none c.in-None.ensures.value
