use Rattle.std.specs.Option.{option_copied}
use Rattle.hub_sync.specs.Plans.{IsPlanFor, target_of}
use Rattle.hub_sync.proofs.Telling.{sync_done, sync_failed}
use Rattle.hub_sync.proofs.sync.sync_with.Goals as goal

pub returns-in-Ok-make-clause-told : goal.returns-in-Ok-make-clause-told
returns-in-Ok-make-clause-told g c = λ start base.
    sync_done (IsPlanFor start c.ask_plan.new.pass.seen (target_of c.args.own (option_copied c.args.hub))) c.in-Ok.listed.items c.as_slice.result.now c.in-Ok-ask_plan.calls.items c.as_slice-2.result.now
    _ _ _ c.in-Ok-make.synced c.as_slice.ensures.value c.as_slice-2.ensures.value c.in-Ok.ensures.calls (c.in-Ok-ask_plan.ensures.planned start base) c.in-Ok-make.ensures.ok

pub returns-clause-told : goal.returns-clause-told
returns-clause-told g c = λ start base.
    sync_failed (IsPlanFor start c.ask_plan.new.pass.seen (target_of c.args.own (option_copied c.args.hub))) c.in-Ok.listed.items c.as_slice.result.now c.in-Ok-ask_plan.calls.items c.as_slice-2.result.now
    _ _ _ c.as_slice.ensures.value c.as_slice-2.ensures.value c.in-Ok.ensures.calls (c.in-Ok-ask_plan.ensures.planned start base) c.in-Err-make.ensures.err
