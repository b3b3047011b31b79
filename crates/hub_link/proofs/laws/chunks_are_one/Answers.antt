use Rattle.hub_link.proofs.CodedLemmas.{one_in_chunks}
use Rattle.hub_link.proofs.laws.chunks_are_one.Goals as goal

pub returns : goal.returns
returns c = one_in_chunks
