use Rattle.std.proofs.Common.{rules, ◌≡◌, ◌==◌, [], ◌∷◌, ◌++◌, not, filter, ap, ◌∙◌}
use Rattle.hub_devices.specs.declared.calls.Spawning.{Spawning}
use Rattle.hub_devices.specs.declared.calls.Told.TheVariants.{Done, Failed}
use Rattle.hub_devices.proofs.CallLemmas.{Grows_call}
use Rattle.hub_devices.proofs.RunningLemmas.{Sets_off, Sets_undone}
use Rattle.hub_devices.proofs.mem_spawner.MemSpawnerSpawner.start.Goals as goal

-- the generation wasn't put in
pub returns-then-not-put_in-clause-failed : goal.returns-then-not-put_in-clause-failed
returns-then-not-put_in-clause-failed c =
    let kept : c.put_in.new.running.items ≡ c.args.self.now.running.items = search rules in
    Sets_off c.args.self.now.running.items c.take_out.new.running.items c.args.g
    (c.take_out.ensures ∙ ap (filter (λ n. not (n == c.args.g))) kept)

-- it was put in, and taken out again
pub returns-in-Err-clause-failed : goal.returns-in-Err-clause-failed
returns-in-Err-clause-failed c =
    let put : c.put_in.new.running.items ≡ c.args.self.now.running.items ++ c.args.g ∷ [] = search rules in
    Sets_undone c.args.self.now.running.items c.put_in.new.running.items c.take_out-in-Err.new.running.items c.args.g put
    c.take_out-in-Err.ensures

pub returns-then-not-put_in-clause-calls : goal.returns-then-not-put_in-clause-calls
returns-then-not-put_in-clause-calls c = Grows_call (λ (call : Spawning). (call, Failed)) c.start_call-call.result _ _ _ c.start_call-call.ensures c.refuse.ensures.grows c.refuse.ensures.lost

pub returns-in-Ok-clause-calls : goal.returns-in-Ok-clause-calls
returns-in-Ok-clause-calls c = Grows_call (λ (call : Spawning). (call, Done)) c.start_call-call.result _ _ _ c.start_call-call.ensures c.in-Ok.ensures.grows c.in-Ok.ensures.lost

pub returns-in-Err-clause-calls : goal.returns-in-Err-clause-calls
returns-in-Err-clause-calls c = Grows_call (λ (call : Spawning). (call, Failed)) c.start_call-call.result _ _ _ c.start_call-call.ensures c.in-Err.ensures.grows c.in-Err.ensures.lost
