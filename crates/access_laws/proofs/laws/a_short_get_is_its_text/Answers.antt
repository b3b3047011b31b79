use Rattle.access_laws.proofs.Reading.{gets_are_texts}
use Rattle.access_laws.proofs.laws.a_short_get_is_its_text.Goals as goal

pub returns : goal.returns
returns c = gets_are_texts
