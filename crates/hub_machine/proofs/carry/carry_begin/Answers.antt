use Rattle.hub_machine.proofs.Pieces.{last_there, undone}
use Rattle.hub_machine.proofs.carry.carry_begin.Goals as goal

pub take_back-requires-clause-last : goal.take_back-requires-clause-last
take_back-requires-clause-last g c = last_there c.args.server.now c.args.lives.now c.begin.new.self c.in_ok-begin.ensures.ok

pub take_back-requires-in-Err-clause-last : goal.take_back-requires-in-Err-clause-last
take_back-requires-in-Err-clause-last g c = last_there c.args.server.now c.args.lives.now c.begin.new.self c.in_ok-begin.ensures.ok

pub returns-in-Ok-false-clause-leased : goal.returns-in-Ok-false-clause-leased
returns-in-Ok-false-clause-leased g c = undone c.args.server.now c.args.lives.now c.begin.new.self c.take_back.new.self c.are_apart.ensures.apart c.in_ok-begin.ensures.ok c.take_back.ensures

pub returns-in-Err-clause-leased : goal.returns-in-Err-clause-leased
returns-in-Err-clause-leased g c = undone c.args.server.now c.args.lives.now c.begin.new.self c.take_back-in-Err.new.self c.are_apart.ensures.apart c.in_ok-begin.ensures.ok c.take_back-in-Err.ensures
