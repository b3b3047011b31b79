use Rattle.server_work.proofs.Breaking.{broken_by_others, alone_unbroken}
use Rattle.server_work.proofs.laws.chain_laws.Goals as goal

pub returns-clause-others : goal.returns-clause-others
returns-clause-others g c = broken_by_others g.B.LifeBook.reached g.B.LifeBook.notes g.B.ToldBook.is_entry c.follows.ensures

pub returns-clause-alone : goal.returns-clause-alone
returns-clause-alone g c = alone_unbroken g.B.LifeBook.reached g.B.LifeBook.notes g.B.ToldBook.is_entry c.follows.ensures
