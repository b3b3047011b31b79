use Rattle.access_laws.proofs.Reading.{gets_read}
use Rattle.access_laws.proofs.laws.a_get_reads_so.Goals as goal

pub returns : goal.returns
returns c = gets_read
