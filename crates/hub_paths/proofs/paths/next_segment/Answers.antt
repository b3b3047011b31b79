use Rattle.hub_paths.proofs.CutLemmas.{segments_cut, segment_alone}
use Rattle.hub_paths.proofs.paths.next_segment.Goals as goal

pub returns-in-Some-clause-parts : goal.returns-in-Some-clause-parts
returns-in-Some-clause-parts c = segments_cut c.args.bytes.now c.in-Some.end c.in-Some.ensures.value

pub returns-in-None-clause-parts : goal.returns-in-None-clause-parts
returns-in-None-clause-parts c = segment_alone c.args.bytes.now c.in-None.ensures.value
