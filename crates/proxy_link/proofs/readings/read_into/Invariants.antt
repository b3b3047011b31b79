use Rattle.std.proofs.Common.{◌≡◌}
use Rattle.serde_json.specs.View.{members_view}
use Rattle.proxy_link.specs.Readings.{each_route}
use Rattle.proxy_link.proofs.Fronts.{joined}
use Rattle.proxy_link.proofs.readings.read_into.Given as goal

abbrev pub invariant-loop-path : goal.invariant-loop-path
invariant-loop-path l =
    joined l.routes (each_route (members_view l.path-iterator)) ≡ each_route (members_view l.members.entries)
