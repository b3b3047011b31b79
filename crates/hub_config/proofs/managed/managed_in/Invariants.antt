use Rattle.std.proofs.Common.{◌≡◌, [], drop}
use Rattle.toml.specs.View.{items_view}
use Rattle.hub_config.specs.Managed.{managed_in}
use Rattle.hub_config.proofs.managed.managed_in.Given as goal

abbrev pub invariant-loop-n : goal.invariant-loop-n
invariant-loop-n l = managed_in l.found.items l.n (items_view (drop l.n l.fn.items)) ≡ managed_in [] 0 (items_view l.fn.items)
