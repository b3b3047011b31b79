use Rattle.std.proofs.Common.{◌≡◌, drop}
use Rattle.serde_json.specs.View.{items_view}
use Rattle.request_parts.specs.Bodies.{each_read}
use Rattle.request_parts.proofs.Fronts.{joined}
use Rattle.request_parts.proofs.body.read_into.Given as goal

abbrev pub invariant-loop-item : goal.invariant-loop-item
invariant-loop-item g l =
    joined l.list (each_read g.N.FromText.reads (items_view (drop l.item-index l.items)))
    ≡ each_read g.N.FromText.reads (items_view l.items)
