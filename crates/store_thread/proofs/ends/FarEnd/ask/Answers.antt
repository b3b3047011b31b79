use Rattle.store_thread.proofs.Telling.{not_put, put_and_heard}
use Rattle.store_thread.proofs.ends.FarEnd.ask.Goals as goal

pub returns-then-not-put : goal.returns-then-not-put
returns-then-not-put g c = not_put c.args.self.now c.put.new.self c.args.call c.put.result c.if-not-put.true c.put.ensures

pub returns : goal.returns
returns g c = put_and_heard c.args.self.now c.put.new.self c.hear.new.self c.args.call c.put.result c.hear.result c.if-not-put.false c.put.ensures c.hear.ensures
