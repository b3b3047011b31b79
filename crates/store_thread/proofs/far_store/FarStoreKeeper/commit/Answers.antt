use Rattle.store_thread.proofs.Telling.{committed}
use Rattle.store_thread.proofs.far_store.FarStoreKeeper.commit.Goals as goal

pub returns-clause-told : goal.returns-clause-told
returns-clause-told g c told = (committed c.args.self.now.caller c.args.batch.now c.commit-said.result c.commit-said.new.self c.commit-said.ensures told).0

pub returns-clause-ok : goal.returns-clause-ok
returns-clause-ok g c told = (committed c.args.self.now.caller c.args.batch.now c.commit-said.result c.commit-said.new.self c.commit-said.ensures told).1

pub returns-clause-err : goal.returns-clause-err
returns-clause-err g c told = (committed c.args.self.now.caller c.args.batch.now c.commit-said.result c.commit-said.new.self c.commit-said.ensures told).2
