use Rattle.hub_devices.specs.declared.calls.Routing.{Routing}
use Rattle.hub_devices.specs.declared.calls.Told.TheVariants.{Done, Failed}
use Rattle.hub_devices.proofs.CallLemmas.{Grows_call}
use Rattle.hub_devices.proofs.mem_routes.MemRouteLinkRouteLink.delete.Goals as goal

pub returns-in-Ok-clause-calls : goal.returns-in-Ok-clause-calls
returns-in-Ok-clause-calls c = Grows_call (λ (call : Routing). (call, Done)) c.delete_call-call.result _ _ _ c.delete_call-call.ensures c.in-Ok.ensures.grows c.in-Ok.ensures.lost

pub returns-in-Err-clause-calls : goal.returns-in-Err-clause-calls
returns-in-Err-clause-calls c = Grows_call (λ (call : Routing). (call, Failed)) c.delete_call-call.result _ _ _ c.delete_call-call.ensures c.in-Err.ensures.grows c.in-Err.ensures.lost
