use Rattle.std.proofs.Common.{take}
use Rattle.http_wire.specs.Fields.{values_of}
use Rattle.proxy_wire.specs.Framing.{IsGiven}
use Rattle.proxy_wire.proofs.given.given_in.Given as goal

abbrev pub invariant-all : goal.invariant-all
invariant-all l = IsGiven (values_of l.name (take l.header-index l.headers)) l.found
