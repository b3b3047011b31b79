use Rattle.std.proofs.Common.{ap, ◌∙◌}
use Rattle.route_table.specs.Path.{slash_escape}
use Rattle.route_table.proofs.ShorterLemmas.{clear_trimmed, clear_path}
use Rattle.route_table.proofs.routes.Routes.look_up.Goals as goal

pub look_in-requires-clause-clear : goal.look_in-requires-clause-clear
look_in-requires-clause-clear c = ap slash_escape c.trimmed.ensures ∙ clear_trimmed c.args.path.now (clear_path c.args.path.now c.in-None.ensures)
