use Rattle.std.proofs.Common.{refl, sym, ◌∙◌}
use Rattle.hub_machine.specs.Answers.{reply_view}
use Rattle.hub_run.specs.Routed as spec
use Rattle.hub_run.proofs.RoutedLemmas.{goes_list, goes_nowhere, goes_sync, list_asked, sync_asked}
use Rattle.hub_run.proofs.routed.text_of_reply.Goals as goal

pub returns-in-Some-List-clause-goes : goal.returns-in-Some-List-clause-goes
returns-in-Some-List-clause-goes g c = λ start base.
    let a = c.text_of_list.ensures.asked in
    goes_list _ _ (spec.lets_by c.args.way (reply_view c.args.gave.now)) c.in-Some-List.field-0 (reply_view c.args.gave.now) a.0 c.args.close _ _
    (sym c.lets_by.ensures ∙ c.in-Some-List.is) c.in-Some-List.field-0-is
    (list_asked _ _ a.0 refl refl refl refl (refl, refl) a.1 c.text_of_list.ensures.counted a.3) a.2

pub returns-in-Some-Sync-clause-goes : goal.returns-in-Some-Sync-clause-goes
returns-in-Some-Sync-clause-goes g c = λ start base.
    let a = c.text_of_sync.ensures.asked start base in
    goes_sync _ _ (spec.lets_by c.args.way (reply_view c.args.gave.now)) c.in-Some-Sync.field-0 (reply_view c.args.gave.now) a.0 a.1 c.args.close _ _
    (sym c.lets_by.ensures ∙ c.in-Some-Sync.is) c.in-Some-Sync.field-0-is
    (sync_asked start _ _ a.0 a.1 base c.text_of_sync.ensures.same c.text_of_sync.ensures.mine c.text_of_sync.ensures.failed c.text_of_sync.ensures.comes
    refl refl refl (refl, refl) a.2 a.3 c.text_of_sync.ensures.counted a.5) a.4

pub returns-in-None-clause-goes : goal.returns-in-None-clause-goes
returns-in-None-clause-goes g c = λ start base.
    goes_nowhere _ (spec.lets_by c.args.way (reply_view c.args.gave.now)) (reply_view c.args.gave.now) c.args.close _ _ (sym c.lets_by.ensures ∙ c.in-None.is) c.text_of.ensures.says
