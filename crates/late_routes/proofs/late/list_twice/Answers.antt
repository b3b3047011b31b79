use Rattle.std.proofs.Common.{ap, ◌∙◌, map}
use Rattle.late_routes.specs.Arrivals.{listed_of}
use Rattle.route_table.specs.Table.{routes_in}
use Rattle.late_routes.proofs.ArrivalLemmas.{all_listed}
use Rattle.late_routes.proofs.late.list_twice.Goals as goal

pub returns-clause-listed : goal.returns-clause-listed
returns-clause-listed c = c.in_ok-listed.ensures ∙ ap (map listed_of) (c.as_slice.ensures ∙ c.in_ok-routes.ensures ∙ all_listed (routes_in c.args.table.now.rows))
