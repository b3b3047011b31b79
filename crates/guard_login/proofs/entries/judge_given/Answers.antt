use Rattle.std.proofs.Common.{ℕ, List, [], Option, refl, sym, subst}
use Rattle.hub_link.proofs.AskLemmas.{no_ask}
use Rattle.guard.specs.Guards.{Judges}
use Rattle.guard_login.proofs.entries.judge_given.Goals as goal

pub returns-in-Some-clause-judges : goal.returns-in-Some-clause-judges
returns-in-Some-clause-judges g c =
    let judged = c.judge_token.ensures.judges in (
      judged.0,
      judged.1,
      subst (λ (t : Option (List ℕ)). Judges c.args.door.now.key t judged.0 (g.H.HubLink.faults c.args.link.now)
          (g.H.HubLink.faults c.judge_token.new.link) c.judge_token.result) c.in-Some.ensures judged.2,
    )

pub returns-in-None-clause-judges : goal.returns-in-None-clause-judges
returns-in-None-clause-judges g c = (
  [],
  no_ask g.H.HubLink.asked g.H.HubLink.does c.args.link.now,
  rw (sym c.in-None.ensures) (refl, refl),
)
