use Rattle.hub_loading.proofs.LinkLemmas.{finds}
use Rattle.hub_loading.proofs.rounds.ask_found.Goals as goal

pub returns-in-Some-clause-found : goal.returns-in-Some-clause-found
returns-in-Some-clause-found g c =
    finds g.H.HubLink.asked g.H.HubLink.does c.found_by.result c.args.link.now c.ask_status.new.link _ c.args.token.now c.args.user _
    c.in-Ok.ensures c.in-Some.ensures.status c.found_by.ensures
