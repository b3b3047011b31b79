use Rattle.std.proofs.Common.{◌||◌, ◌==◌, length, sym, ap, ◌∙◌}
use Rattle.hub_devices.proofs.CallLemmas.{Rises_earlier, failed_after}
use Rattle.hub_devices.proofs.mem_listener.MemListenerListener.accept.Goals as goal

pub returns-then-next-clause-fails : goal.returns-then-next-clause-fails
returns-then-next-clause-fails g c = ap (λ b. b || (length c.args.self.now.doors.items == 0)) (sym c.if-next.true ∙ c.next.ensures.failing)

pub returns-in-None-clause-cause : goal.returns-in-None-clause-cause
returns-in-None-clause-cause g c = Rises_earlier _ _ _ c.next.ensures.kept c.fail.ensures.cause c.fail.ensures.kept

pub returns-in-None-clause-script : goal.returns-in-None-clause-script
returns-in-None-clause-script g c = failed_after c.args.self.now.script c.next.new.self c.fail.new.self c.next.result c.fail.ensures.counted c.next.ensures.counted c.if-next.false
