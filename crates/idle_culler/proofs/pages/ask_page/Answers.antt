use Rattle.std.proofs.Common.{[], ◌∷◌, Err, refl, inr}
use Rattle.hub_link.proofs.AskLemmas.{one_ask}
use Rattle.idle_culler.specs.Requests.{page_request}
use Rattle.idle_culler.proofs.PageLemmas.{page_asked, page_refused}
use Rattle.idle_culler.proofs.pages.ask_page.Goals as goal

pub returns-in-Ok-ask-clause-ok : goal.returns-in-Ok-ask-clause-ok
returns-in-Ok-ask-clause-ok g c =
    page_asked g.H.HubLink.asked g.H.HubLink.does c.args.link.now c.ask.new.self c.args.token.now c.args.offset c.in-Ok.request c.in-Ok-ask.bytes c.as_slice.result.now
    c.page_in_reply.result c.in-Ok.ensures c.in-Ok-ask.ensures.does c.in-Ok-ask.ensures.asked c.as_slice.ensures c.page_in_reply.ensures.ok

pub returns-in-Ok-ask-clause-err : goal.returns-in-Ok-ask-clause-err
returns-in-Ok-ask-clause-err g c =
    page_refused g.H.HubLink.asked g.H.HubLink.does c.args.link.now c.ask.new.self c.args.token.now c.args.offset c.in-Ok.request c.in-Ok-ask.bytes c.as_slice.result.now
    c.page_in_reply.result c.in-Ok.ensures c.in-Ok-ask.ensures.does c.in-Ok-ask.ensures.asked c.as_slice.ensures c.page_in_reply.ensures.err

pub returns-clause-err : goal.returns-clause-err
returns-clause-err g c = (
  (page_request c.args.token.now c.args.offset, Err c.in-Err-Memory.field-0) ∷ [],
  one_ask g.H.HubLink.asked g.H.HubLink.does c.args.link.now c.ask.new.self c.in-Ok.request (page_request c.args.token.now c.args.offset) (Err c.in-Err-Memory.field-0)
      c.in-Ok.ensures c.in-Err-Memory.ensures.does c.in-Err-Memory.ensures.asked,
  inr (Err c.in-Err-Memory.field-0, refl),
)
