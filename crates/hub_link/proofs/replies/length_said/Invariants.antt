use Rattle.std.proofs.Common.{◌≡◌, map, take}
use Rattle.http_wire.specs.Due as due
use Rattle.http_wire.specs.Head.{header_at}
use Rattle.hub_link.proofs.replies.length_said.Given as goal

abbrev pub invariant-all : goal.invariant-all
invariant-all l = l.said ≡ due.length_said (map (header_at l.bytes) (take l.span-index l.spans))
