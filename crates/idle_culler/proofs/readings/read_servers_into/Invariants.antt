use Rattle.std.proofs.Common.{◌≡◌}
use Rattle.serde_json.specs.View.{members_view}
use Rattle.idle_culler.specs.Readings.{each_server}
use Rattle.idle_culler.proofs.Fronts.{joined}
use Rattle.idle_culler.proofs.readings.read_servers_into.Given as goal

abbrev pub invariant-loop-name : goal.invariant-loop-name
invariant-loop-name l =
    joined l.list (each_server (members_view l.name-iterator)) ≡ each_server (members_view l.members.entries)
