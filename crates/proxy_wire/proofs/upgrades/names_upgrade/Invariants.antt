use Rattle.std.proofs.Common.{◌≡◌, length}
use Rattle.proxy_wire.specs.Upgrades.{names_upgrade}
use Rattle.proxy_wire.proofs.upgrades.names_upgrade.Given as goal

abbrev pub invariant-words : goal.invariant-words
invariant-words l = names_upgrade l.rest ≡ names_upgrade l.fn.value

abbrev pub decreases-words : goal.decreases-words
decreases-words l = length l.rest
