use Rattle.std.proofs.Common.{◌≡◌, map, take}
use Rattle.http_wire.specs.Head.{header_at}
use Rattle.http_wire.proofs.head.headers_of.Given as goal

abbrev pub invariant-loop-span : goal.invariant-loop-span
invariant-loop-span l = l.headers ≡ map (header_at l.bytes) (take l.span-index l.spans)
