use Rattle.std.proofs.Common.{arith}
use Rattle.std.proofs.lemmas.Grind.{common_steps}
use Rattle.hub_devices.proofs.StreamLemmas.{Takes_part}
use Rattle.hub_devices.proofs.mem_bytes.MemSourceSource.read.Goals as goal

pub returns-clause-takes : goal.returns-clause-takes
returns-clause-takes c =
    Takes_part c.args.self.now.bytes c.args.into.now c.copy_from_slice.new.self c.args.self.now.at c.min-count.result
    (grind (arith, common_steps)) (grind (arith, common_steps))
