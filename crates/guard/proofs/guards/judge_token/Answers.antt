use Rattle.guard.specs.Access.{access_request}
use Rattle.guard.proofs.GuardLemmas.{answered}
use Rattle.guard.proofs.guards.judge_token.Goals as goal

pub returns-clause-judges : goal.returns-clause-judges
returns-clause-judges g c =
    let asked = answered g.H.HubLink.asked g.H.HubLink.does (access_request c.args.key.now c.args.token.now) c.args.link.now c.ask_access.new.link
    (g.H.HubLink.faults c.args.link.now) (g.H.HubLink.faults c.ask_access.new.link) c.ask_access.result
    c.ask_access.ensures.ok c.ask_access.ensures.err c.ask_access.ensures.cause in
    (asked.0, asked.1, (c.ask_access.result, asked.2, c.verdict_of.ensures))
