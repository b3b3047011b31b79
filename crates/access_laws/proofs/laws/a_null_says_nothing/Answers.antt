use Rattle.access_laws.proofs.Saying.{nothing_says}
use Rattle.access_laws.proofs.laws.a_null_says_nothing.Goals as goal

pub returns : goal.returns
returns c = nothing_says
