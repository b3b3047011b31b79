use Rattle.hub_run.specs.Turns.{view_of}
use Rattle.direct_link.specs.Direct.{Direct}
use Rattle.access_laws.proofs.Asked.{access_is_asked, access_is_text}
use Rattle.access_laws.proofs.Saying.{user_says, service_says, nothing_says}
use Rattle.direct_link.proofs.Deciding.{decided}
use Rattle.direct_link.proofs.Chains.{chain_seen, chain_keeps}
use Rattle.direct_link.proofs.guarding.guard_direct.Goals as goal

pub returns-clause-same_pass : goal.returns-clause-same_pass
returns-clause-same_pass g c =
    let (asks, kept, asked, ends) = c.guard_one.ensures.ends in
    chain_keeps c.args.link.now c.guard_one.new.link asks (λ l. l.pass.ghost_name) _ (λ a b request given does. does.0) asked.meets

pub returns-clause-same_kit : goal.returns-clause-same_kit
returns-clause-same_kit g c =
    let (asks, kept, asked, ends) = c.guard_one.ensures.ends in
    chain_keeps c.args.link.now c.guard_one.new.link asks (λ l. l.kit.ghost_name) _ (λ a b request given does. does.1) asked.meets

pub returns-clause-ends : goal.returns-clause-ends
returns-clause-ends g c =
    let (asks, kept, asked, ends) = c.guard_one.ensures.ends in (
      asks,
      kept,
      chain_seen c.args.link.now c.guard_one.new.link asks
          (λ l. view_of g.C.Clock.to_come g.R.Random.left g.S.Spawner.calls g.P.RouteLink.calls g.R.Random.faults g.S.Spawner.faults g.P.RouteLink.faults l.pass.now l.kit.now)
          Direct _ (λ a b request given does. does.2) asked.meets,
      ends,
    )

pub returns-clause-decided : goal.returns-clause-decided
returns-clause-decided g c = λ start head more base served left.
    let (asks, kept, asked, ends) = c.guard_one.ensures.ends in
    let chain = chain_seen c.args.link.now c.guard_one.new.link asks
    (λ l. view_of g.C.Clock.to_come g.R.Random.left g.S.Spawner.calls g.P.RouteLink.calls g.R.Random.faults g.S.Spawner.faults g.P.RouteLink.faults l.pass.now l.kit.now)
    Direct _ (λ a b request given does. does.2) asked.meets in
    decided user_says service_says nothing_says access_is_asked access_is_text start _ _ c.args.key.now c.args.target.now asks _ _ c.guard_one.result base
    c.as_str-user.ensures.name c.as_str-server.ensures.name chain head more left served ends
