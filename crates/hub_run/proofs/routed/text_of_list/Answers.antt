use Rattle.std.proofs.Common.{refl, inr, subst, List, Ok, Err}
use Rattle.std.specs.Prelude.{IfOk}
use Rattle.hub_devices.specs.declared.calls.ListedRoute.{ListedRoute}
use Rattle.hub_devices.specs.declared.link_error.LinkError.TheVariants as Link
use Rattle.hub_machine.specs.Answers.{reply_view}
use Rattle.hub_run.specs.Routed.{IsListReply, listing}
use Rattle.hub_run.proofs.RoutedLemmas.{failed_list, lost_list, says_made}
use Rattle.hub_run.proofs.routed.text_of_list.Goals as goal

pub returns-in-Ok-clause-asked : goal.returns-in-Ok-clause-asked
returns-in-Ok-clause-asked g c = (
  Ok c.in-Ok.listed.items,
  c.in-Ok.ensures.calls,
  says_made (reply_view c.args.gave.now) (listing (Ok c.in-Ok.listed.items)) c.list_reply-made.result c.args.close _ _
      (subst (λ (routes : List ListedRoute). IfOk c.list_reply-made.result (λ q. IsListReply (reply_view c.args.gave.now) (Ok routes) (reply_view q))) c.as_slice.ensures.value c.list_reply-made.ensures)
      c.text_of_made.ensures.says,
  λ e. absurd (cc),
)

pub returns-in-Err-Failed-clause-asked : goal.returns-in-Err-Failed-clause-asked
returns-in-Err-Failed-clause-asked g c = (
  Err Link.Failed,
  failed_list _ _ c.in-Err-Failed.field-0 c.in-Err-Failed.field-0-is c.in-Err-Failed.ensures.failed,
  says_made (reply_view c.args.gave.now) (listing (Err Link.Failed)) c.fault_reply.result c.args.close _ _ c.fault_reply.ensures c.text_of_made-in-Err-Failed.ensures.says,
  λ e. c.in-Err-Failed.ensures.cause c.in-Err-Failed.field-0-is,
)

pub returns-in-Err-Memory-clause-asked : goal.returns-in-Err-Memory-clause-asked
returns-in-Err-Memory-clause-asked g c = (
  Err Link.Memory,
  lost_list _ _ c.in-Err-Memory.field-0 c.in-Err-Memory.field-0-is c.in-Err-Memory.ensures.failed,
  inr (refl, refl),
  λ e. absurd (cc),
)
