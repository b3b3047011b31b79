use Rattle.std.proofs.Common.{Bool, [], ◌∷◌, Ok, refl, sym, subst, ◌∙◌, inr}
use Rattle.hub_link.specs.Links.{Exchange}
use Rattle.hub_link.proofs.AskLemmas.{asks_then}
use Rattle.idle_culler.specs.Deletions.{Removes}
use Rattle.idle_culler.specs.Requests.{deletion_request}
use Rattle.idle_culler.proofs.RoundLemmas.{fault_behind}
use Rattle.idle_culler.proofs.deletions.delete_one.Goals as goal

pub returns-in-Ok-ask_removal-clause-ok : goal.returns-in-Ok-ask_removal-clause-ok
returns-in-Ok-ask_removal-clause-ok g c =
    let (bytes, first, says) = c.in-Ok.ensures.ok in
    let (second, removal, removes) = c.in-Ok-ask_removal.ensures.ok in
    let ask : Exchange = (deletion_request c.args.token.now c.args.cull.now, Ok bytes) in (
      ask ∷ second,
      asks_then g.H.HubLink.asked g.H.HubLink.does c.args.link.now c.ask_deletion.new.link c.ask_removal.new.link (ask ∷ []) second first removal,
      record {
        bytes = bytes;
        status = c.in-Ok.status;
        second = second;
        asked = refl;
        says = says;
        removes = subst (λ (b : Bool). Removes c.args.token.now c.args.cull.now b second) c.is_removed.ensures removes;
        is = c.is_done.ensures;
      },
    )

pub returns-in-Err-ask_removal-clause-err : goal.returns-in-Err-ask_removal-clause-err
returns-in-Err-ask_removal-clause-err g c =
    let (bytes, first, says) = c.in-Ok.ensures.ok in
    let (second, removal, due, begins, fault) = c.in-Err-ask_removal.ensures.err in
    let ask : Exchange = (deletion_request c.args.token.now c.args.cull.now, Ok bytes) in (
      ask ∷ second,
      asks_then g.H.HubLink.asked g.H.HubLink.does c.args.link.now c.ask_deletion.new.link c.ask_removal.new.link (ask ∷ []) second first removal,
      inr (record {
        bytes = bytes;
        status = c.in-Ok.status;
        second = second;
        asked = refl;
        says = says;
        due = sym c.is_removed.ensures ∙ due;
        begins = begins;
      }),
      fault_behind (ask ∷ []) second c.in-Err-ask_removal.fault fault,
    )
