use Rattle.std.proofs.Common.{ap, ◌∙◌}
use Rattle.route_table.specs.Path.{slash_escape}
use Rattle.route_table.proofs.ShorterLemmas.{clear_trimmed, clear_path}
use Rattle.route_table.proofs.routes.Routes.find.Goals as goal

pub best_route-requires-clause-clear : goal.best_route-requires-clause-clear
best_route-requires-clause-clear c = ap slash_escape c.trimmed.ensures ∙ clear_trimmed c.args.path.now (clear_path c.args.path.now c.in-None.ensures)
