use Rattle.http_wire.proofs.WordLemmas.{parts_cut, part_alone}
use Rattle.http_wire.proofs.words.next_part.Goals as goal

pub returns-in-Some-clause-parts : goal.returns-in-Some-clause-parts
returns-in-Some-clause-parts c = parts_cut c.args.bytes.now c.in-Some.end c.in-Some.ensures.value

pub returns-in-None-clause-parts : goal.returns-in-None-clause-parts
returns-in-None-clause-parts c = part_alone c.args.bytes.now c.in-None.ensures.value
