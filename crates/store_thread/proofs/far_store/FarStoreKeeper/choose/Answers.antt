use Rattle.keeper.specs.Rows.{place_of}
use Rattle.store_thread.proofs.Telling.{takes, stays_own, stays_unchosen}
use Rattle.store_thread.proofs.far_store.FarStoreKeeper.choose.Goals as goal

pub returns-clause-chosen : goal.returns-clause-chosen
returns-clause-chosen g c = takes c.args.self.now.caller (place_of c.args.place) c.choose-said.result c.choose-said.new.self c.choose-said.ensures

pub returns-clause-own : goal.returns-clause-own
returns-clause-own g c own = stays_own c.args.self.now.caller (place_of c.args.place) c.choose-said.result c.choose-said.new.self c.choose-said.ensures own

pub returns-clause-err : goal.returns-clause-err
returns-clause-err g c = stays_unchosen c.args.self.now.caller (place_of c.args.place) c.choose-said.result c.choose-said.new.self c.choose-said.ensures
