use Rattle.std.proofs.Common.{◌≡◌, length}
use Rattle.http_wire.specs.Connection.{asks_close}
use Rattle.http_wire.proofs.connection.asks_close.Given as goal

abbrev pub invariant-parts : goal.invariant-parts
invariant-parts l = asks_close l.rest ≡ asks_close l.fn.value

abbrev pub decreases-parts : goal.decreases-parts
decreases-parts l = length l.rest
