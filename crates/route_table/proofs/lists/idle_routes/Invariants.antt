use Rattle.std.proofs.Common.{◌≡◌, take}
use Rattle.route_table.specs.Rows.{idle_in}
use Rattle.route_table.proofs.lists.idle_routes.Given as goal

abbrev pub invariant-copies : goal.invariant-copies
invariant-copies l = l.found.items ≡ idle_in l.since (take l.row-index l.rows)
