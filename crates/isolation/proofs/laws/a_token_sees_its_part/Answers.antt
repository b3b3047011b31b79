use Rattle.isolation.proofs.Calls.{isolated}
use Rattle.isolation.proofs.laws.a_token_sees_its_part.Goals as goal

pub returns : goal.returns
returns c = isolated
