use Rattle.std.proofs.Common.{◌≡◌, map, take}
use Rattle.http_wire.specs.Head.{header_at}
use Rattle.hub_link.specs.Chunked as spec
use Rattle.hub_link.proofs.codings.coding_said.Given as goal

abbrev pub invariant-all : goal.invariant-all
invariant-all l = l.said ≡ spec.coding_said (map (header_at l.bytes) (take l.span-index l.spans))
