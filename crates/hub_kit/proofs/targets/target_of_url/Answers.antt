use Rattle.std.proofs.Common.{sym, subst}
use Rattle.hub_kit.specs.Targets.{IsTarget}
use Rattle.hub_kit.proofs.TargetReads.{target_reads}
use Rattle.hub_kit.proofs.targets.target_of_url.Goals as goal

pub from_text-requires : goal.from_text-requires
from_text-requires c = subst IsTarget (sym c.in_ok-text.ensures.text) (target_reads c.args.url.now c.in_ok-text.ensures.valid c.requires)
