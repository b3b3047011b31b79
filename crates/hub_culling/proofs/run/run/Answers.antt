use Rattle.hub_words.specs.Cull.{cull_read}
use Rattle.hub_culling.proofs.TurnLemmas.{wanting}
use Rattle.hub_culling.proofs.run.run.Goals as goal

pub returns-in-Err-Memory-clause-ends : goal.returns-in-Err-Memory-clause-ends
returns-in-Err-Memory-clause-ends g c =
    wanting g.W.Asks.HubLink.asked g.W.Asks.HubLink.does (g.W.Reads.Files.files c.args.outside.now.files) _ (cull_read c.args.words.now)
