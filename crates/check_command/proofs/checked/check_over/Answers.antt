use Rattle.hub_main.proofs.Configurations.{file_fits, file_scopes}
use Rattle.check_command.proofs.checked.check_over.Goals as goal

pub with_file-ended-requires-clause-limits : goal.with_file-ended-requires-clause-limits
with_file-ended-requires-clause-limits g c = file_fits _ _ c.in-Ok.file c.in-Ok.ensures.ok

pub with_file-ended-requires-clause-scopes : goal.with_file-ended-requires-clause-scopes
with_file-ended-requires-clause-scopes g c = file_scopes _ _ c.in-Ok.file c.in-Ok.ensures.ok
