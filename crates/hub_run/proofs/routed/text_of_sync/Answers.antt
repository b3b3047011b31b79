use Rattle.std.proofs.Common.{refl, ap, inr, Ok, Err}
use Rattle.hub_machine.specs.Answers.{reply_view}
use Rattle.hub_machine.specs.State.{Hub}
use Rattle.hub_sync.specs.Plans.{IsPlanFor}
use Rattle.hub_sync.specs.declared.calls.SyncFault.TheVariants as Fault
use Rattle.hub_run.specs.Routed.{syncing}
use Rattle.hub_run.proofs.RoutedLemmas.{says_made, sync_ended}
use Rattle.hub_run.proofs.routed.text_of_sync.Goals as goal

pub returns-in-Ok-clause-asked : goal.returns-in-Ok-clause-asked
returns-in-Ok-clause-asked g c = λ start base.
    let found = c.in-Ok.ensures.told start base in (
      found.0,
      Ok c.in-Ok.synced,
      found.1,
      found.2,
      says_made (reply_view c.args.gave.now) (syncing found.0 (Ok c.in-Ok.synced)) c.synced_reply.result c.args.close _ _ c.synced_reply.ensures c.text_of_made.ensures.says,
      λ e. absurd (cc),
    )

pub returns-in-Err-Routes-clause-asked : goal.returns-in-Err-Routes-clause-asked
returns-in-Err-Routes-clause-asked g c = λ start base.
    let found = sync_ended (IsPlanFor start c.sync_own_routes.new.pass.seen (λ (s : Hub). s.hub_url)) _ _ c.in-Err-Routes.field-0 Fault.Routes c.in-Err-Routes.field-0-is
    (c.in-Err-Routes.ensures.told start base) in (
      found.0,
      Err Fault.Routes,
      found.1,
      found.2,
      says_made (reply_view c.args.gave.now) (syncing found.0 (Err Fault.Routes)) c.fault_reply.result c.args.close _ _ c.fault_reply.ensures c.text_of_made-in-Err-Routes.ensures.says,
      λ e. c.in-Err-Routes.ensures.cause (ap Err c.in-Err-Routes.field-0-is),
    )

pub returns-in-Err-Memory-clause-asked : goal.returns-in-Err-Memory-clause-asked
returns-in-Err-Memory-clause-asked g c = λ start base.
    let found = sync_ended (IsPlanFor start c.sync_own_routes.new.pass.seen (λ (s : Hub). s.hub_url)) _ _ c.in-Err-Memory.field-0 Fault.Memory c.in-Err-Memory.field-0-is
    (c.in-Err-Memory.ensures.told start base) in (found.0, Err Fault.Memory, found.1, found.2, inr (refl, refl), λ e. absurd (cc))
