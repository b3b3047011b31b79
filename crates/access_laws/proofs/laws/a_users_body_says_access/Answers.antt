use Rattle.access_laws.proofs.Saying.{user_says}
use Rattle.access_laws.proofs.laws.a_users_body_says_access.Goals as goal

pub returns : goal.returns
returns c = user_says
