use Rattle.std.proofs.Common.{refl}
use Rattle.std.specs.Option.{option_copied}
use Rattle.hub_sync.specs.Plans.{target_of}
use Rattle.hub_sync.proofs.Looking.{planned_at}
use Rattle.hub_sync.proofs.planning.PlanningJobBook.act.Goals as goal

pub returns-clause-does : goal.returns-clause-does
returns-clause-does g c = (
  refl,
  planned_at c.args.book.now (target_of c.args.self.now.own (option_copied c.args.self.now.hub)) c.args.self.now.listed.now c.plan_for.result (λ calls. calls.items) c.stands.ensures c.plan_for.ensures,
)
