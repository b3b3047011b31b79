use Rattle.http_wire.proofs.ToldLemmas.{head_next}
use Rattle.http_wire.proofs.heads.read_head.Goals as goal

pub returns-clause-told : goal.returns-clause-told
returns-clause-told g c = λ left told decided. head_next left c.args.kept.now c.read_until_head-outcome.new.kept _ _ c.read_until_head-outcome.result c.as_slice.ensures.within c.read_until_head-outcome.ensures.ok c.read_until_head-outcome.ensures.err told decided
