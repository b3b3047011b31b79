use Rattle.server_work.proofs.Taking.{taken}
use Rattle.server_work.proofs.chain.take_outcome.Goals as goal

pub returns : goal.returns
returns g c =
    let v = c.visit.ensures.visit in
    record {
      took = taken g.B.Booked.entries g.B.Booked.base g.B.Booked.faults g.B.LifeBook.lives g.B.LifeBook.reached g.B.LifeBook.notes
          c.args.pass.now c.visit.new.pass v.0 v.1 c.args.generation c.args.outcome c.visit.result c.requires.outcome v.2.0 v.2.1 (v.2.2 c.requires.outcome) v.3;
    }
