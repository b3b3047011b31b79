use Rattle.load_asks.proofs.PostLemmas.{reached_ask}
use Rattle.load_asks.proofs.asks.ask_status.Goals as goal

pub returns-in-Ok-clause-reached : goal.returns-in-Ok-clause-reached
returns-in-Ok-clause-reached g c =
    reached_ask g.H.HubLink.asked g.H.HubLink.does c.args.link.now c.ask.new.self c.args.request.now _ c.in-Ok.ensures.does c.in-Ok.ensures.asked

pub returns-in-Err-clause-reached : goal.returns-in-Err-clause-reached
returns-in-Err-clause-reached g c =
    reached_ask g.H.HubLink.asked g.H.HubLink.does c.args.link.now c.ask.new.self c.args.request.now _ c.in-Err.ensures.does c.in-Err.ensures.asked
