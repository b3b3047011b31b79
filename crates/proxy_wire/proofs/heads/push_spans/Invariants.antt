use Rattle.std.proofs.Common.{◌≡◌, ◌++◌, map, take}
use Rattle.http_wire.specs.Head.{header_at}
use Rattle.proxy_wire.specs.Heads.{header_lines}
use Rattle.proxy_wire.proofs.heads.push_spans.Given as goal

abbrev pub invariant-lines : goal.invariant-lines
invariant-lines l = l.text ≡ l.fn.text ++ header_lines l.upgrade (map (header_at l.bytes) (take l.span-index l.spans))
