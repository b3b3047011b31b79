use Rattle.std.proofs.Common.{◌≡◌, drop}
use Rattle.serde_json.specs.View.{items_view}
use Rattle.idle_culler.specs.Readings.{each_user}
use Rattle.idle_culler.proofs.Fronts.{joined}
use Rattle.idle_culler.proofs.readings.read_users_into.Given as goal

abbrev pub invariant-loop-item : goal.invariant-loop-item
invariant-loop-item l = joined l.list (each_user (items_view (drop l.item-index l.items))) ≡ each_user (items_view l.items)
