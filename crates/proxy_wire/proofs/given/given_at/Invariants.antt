use Rattle.std.proofs.Common.{map, take}
use Rattle.http_wire.specs.Fields.{values_of}
use Rattle.http_wire.specs.Head.{header_at}
use Rattle.proxy_wire.specs.Framing.{IsGiven}
use Rattle.proxy_wire.proofs.given.given_at.Given as goal

abbrev pub invariant-all : goal.invariant-all
invariant-all l = IsGiven (values_of l.name (map (header_at l.bytes) (take l.span-index l.spans))) l.found
