use Rattle.std.proofs.Common.{[]}
use Rattle.hub_main.proofs.Unknown.{all_or_one}
use Rattle.hub_main.proofs.opening.are_configured.Goals as goal

pub returns-in-Ok-clause-ok : goal.returns-in-Ok-clause-ok
returns-in-Ok-clause-ok c = all_or_one c.args.config.now [] c.in-Ok.unknown c.is_none.result c.in-Ok.ensures c.is_none.ensures
