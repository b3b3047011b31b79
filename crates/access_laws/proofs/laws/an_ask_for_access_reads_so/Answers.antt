use Rattle.access_laws.proofs.Asked.{access_is_asked}
use Rattle.access_laws.proofs.laws.an_ask_for_access_reads_so.Goals as goal

pub returns : goal.returns
returns c = access_is_asked
