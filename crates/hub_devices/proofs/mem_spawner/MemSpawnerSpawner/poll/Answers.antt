use Rattle.hub_devices.specs.declared.calls.Spawning.{Spawning}
use Rattle.hub_devices.specs.declared.calls.Told.TheVariants.{Runs, Failed}
use Rattle.hub_devices.proofs.CallLemmas.{Grows_call}
use Rattle.hub_devices.proofs.mem_spawner.MemSpawnerSpawner.poll.Goals as goal

pub returns-in-Ok-clause-calls : goal.returns-in-Ok-clause-calls
returns-in-Ok-clause-calls c = Grows_call (λ (call : Spawning). (call, Runs c.contains-runs.result)) c.poll_call-call.result _ _ _ c.poll_call-call.ensures c.in-Ok.ensures.grows c.in-Ok.ensures.lost

pub returns-in-Err-clause-calls : goal.returns-in-Err-clause-calls
returns-in-Err-clause-calls c = Grows_call (λ (call : Spawning). (call, Failed)) c.poll_call-call.result _ _ _ c.poll_call-call.ensures c.in-Err.ensures.grows c.in-Err.ensures.lost
