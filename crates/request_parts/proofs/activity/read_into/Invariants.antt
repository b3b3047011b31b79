use Rattle.std.proofs.Common.{◌≡◌}
use Rattle.serde_json.specs.View.{members_view}
use Rattle.request_parts.specs.Activity.{each_told}
use Rattle.request_parts.proofs.Fronts.{joined}
use Rattle.request_parts.proofs.activity.read_into.Given as goal

abbrev pub invariant-loop-name : goal.invariant-loop-name
invariant-loop-name l =
    joined l.list (each_told (members_view l.name-iterator)) ≡ each_told (members_view l.members.entries)
