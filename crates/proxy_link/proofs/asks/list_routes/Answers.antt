use Rattle.std.proofs.Common.{Ok, Err}
use Rattle.hub_devices.specs.declared.link_error.LinkError.TheVariants as Link
use Rattle.proxy_link.specs.Requests.{list_request}
use Rattle.proxy_link.proofs.AskLemmas.{lists, unread}
use Rattle.proxy_link.proofs.asks.list_routes.Goals as goal

pub returns-in-Ok-read_routes-clause-ok : goal.returns-in-Ok-read_routes-clause-ok
returns-in-Ok-read_routes-clause-ok g c =
    lists g.L.HubLink.asked g.L.HubLink.does c.args.link.now c.ask.new.self c.in-Ok.request (list_request c.args.secret.now) c.in-Ok-ask.bytes c.as_slice.result.now
    c.in-Ok-read_routes.routes c.in-Ok.ensures c.in-Ok-ask.ensures.does c.in-Ok-ask.ensures.asked c.as_slice.ensures c.in-Ok-read_routes.ensures

pub returns-in-Ok-ask-clause-err : goal.returns-in-Ok-ask-clause-err
returns-in-Ok-ask-clause-err g c =
    unread g.L.HubLink.asked g.L.HubLink.does c.args.link.now c.ask.new.self c.in-Ok.request (list_request c.args.secret.now) (Ok c.in-Ok-ask.bytes)
    c.in-Ok.ensures c.in-Ok-ask.ensures.does c.in-Ok-ask.ensures.asked

pub returns-clause-err : goal.returns-clause-err
returns-clause-err g c =
    unread g.L.HubLink.asked g.L.HubLink.does c.args.link.now c.ask.new.self c.in-Ok.request (list_request c.args.secret.now) (Err c.in-Err-Memory.field-0)
    c.in-Ok.ensures c.in-Err-Memory.ensures.does c.in-Err-Memory.ensures.asked
