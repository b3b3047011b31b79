use Rattle.isolation.proofs.Owning.{stay_own}
use Rattle.isolation.proofs.laws.rows_stay_own.Goals as goal

pub returns : goal.returns
returns c = stay_own
