use Rattle.access_laws.proofs.Asked.{access_is_text}
use Rattle.access_laws.proofs.laws.a_short_ask_for_access_is_its_text.Goals as goal

pub returns : goal.returns
returns c = access_is_text
