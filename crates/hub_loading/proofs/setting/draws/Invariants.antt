use Rattle.std.proofs.Common.{◌≡◌}
use Rattle.hub_loading.specs.Setting.{draws}
use Rattle.hub_loading.proofs.setting.draws.Given as goal

abbrev pub invariant-loop-k : goal.invariant-loop-k
invariant-loop-k l = l.draws.items ≡ draws l.k
