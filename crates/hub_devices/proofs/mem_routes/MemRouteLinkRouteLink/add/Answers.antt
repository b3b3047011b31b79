use Rattle.hub_devices.specs.declared.calls.Routing.{Routing}
use Rattle.hub_devices.specs.declared.calls.Told.TheVariants.{Done, Failed}
use Rattle.hub_devices.proofs.CallLemmas.{Grows_call}
use Rattle.hub_devices.proofs.mem_routes.MemRouteLinkRouteLink.add.Goals as goal

pub returns-then-is_err-clause-calls : goal.returns-then-is_err-clause-calls
returns-then-is_err-clause-calls c = Grows_call (λ (call : Routing). (call, Failed)) c.add_call-call.result _ _ _ c.add_call-call.ensures c.refuse.ensures.grows c.refuse.ensures.lost

pub returns-in-Ok-clause-calls : goal.returns-in-Ok-clause-calls
returns-in-Ok-clause-calls c = Grows_call (λ (call : Routing). (call, Done)) c.add_call-call.result _ _ _ c.add_call-call.ensures c.in-Ok.ensures.grows c.in-Ok.ensures.lost

pub returns-in-Err-clause-calls : goal.returns-in-Err-clause-calls
returns-in-Err-clause-calls c = Grows_call (λ (call : Routing). (call, Failed)) c.add_call-call.result _ _ _ c.add_call-call.ensures c.in-Err.ensures.grows c.in-Err.ensures.lost
