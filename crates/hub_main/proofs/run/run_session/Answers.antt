use Rattle.hub_main.proofs.Configurations.{config_few, config_scopes}
use Rattle.hub_main.proofs.run.run_session.Goals as goal

pub run_configured-ended-requires-clause-limits : goal.run_configured-ended-requires-clause-limits
run_configured-ended-requires-clause-limits g c = config_few _ c.args.words.now c.in-Ok.config c.in-Ok.ensures.ok

pub run_configured-ended-requires-clause-scopes : goal.run_configured-ended-requires-clause-scopes
run_configured-ended-requires-clause-scopes g c = config_scopes _ c.args.words.now c.in-Ok.config c.in-Ok.ensures.ok
