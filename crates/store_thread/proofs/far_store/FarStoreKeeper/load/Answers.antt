use Rattle.store_thread.proofs.Telling.{read_loads}
use Rattle.store_thread.proofs.far_store.FarStoreKeeper.load.Goals as goal

pub returns-clause-listed : goal.returns-clause-listed
returns-clause-listed g c told = (read_loads c.args.self.now.caller c.load-said.result c.load-said.new.self c.load-said.ensures told).2

pub returns-clause-kept : goal.returns-clause-kept
returns-clause-kept g c told = let loads = read_loads c.args.self.now.caller c.load-said.result c.load-said.new.self c.load-said.ensures told in (loads.0, loads.1)
