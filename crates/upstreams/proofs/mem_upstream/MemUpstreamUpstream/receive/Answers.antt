use Rattle.std.proofs.Common.{arith}
use Rattle.std.proofs.lemmas.Grind.{common_steps}
use Rattle.upstreams.proofs.UpstreamLemmas.{told_receives, part_left}
use Rattle.upstreams.proofs.mem_upstream.MemUpstreamUpstream.receive.Goals as goal

pub returns-clause-takes : goal.returns-clause-takes
returns-clause-takes c =
    told_receives _ _ _ (part_left c.args.self.now.given c.args.into.now c.copy_from_slice.new.self c.args.self.now.at c.min-count.result
    (grind (arith, common_steps)) (grind (arith, common_steps)))
