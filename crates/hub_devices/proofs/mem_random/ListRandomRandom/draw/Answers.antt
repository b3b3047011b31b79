use Rattle.std.proofs.Common.{◌||◌, ◌==◌, length, sym, ap, ◌∙◌}
use Rattle.hub_devices.proofs.CallLemmas.{Rises_earlier, failed_after}
use Rattle.hub_devices.proofs.mem_random.ListRandomRandom.draw.Goals as goal

pub returns-then-next-clause-fails : goal.returns-then-next-clause-fails
returns-then-next-clause-fails c = ap (λ b. b || (c.args.self.now.at == length c.args.self.now.draws.items)) (sym c.if-next.true ∙ c.next.ensures.failing)

pub returns-then-self-len-clause-cause : goal.returns-then-self-len-clause-cause
returns-then-self-len-clause-cause c = Rises_earlier _ _ _ c.next.ensures.kept c.fail.ensures.cause c.fail.ensures.kept

pub returns-then-self-len-clause-script : goal.returns-then-self-len-clause-script
returns-then-self-len-clause-script c = failed_after c.args.self.now.script c.next.new.self c.fail.new.self c.next.result c.fail.ensures.counted c.next.ensures.counted c.if-next.false
