use Rattle.std.proofs.Common.{◌≡◌, ◌++◌, take}
use Rattle.proxy_wire.specs.Heads.{header_lines}
use Rattle.proxy_wire.proofs.heads.push_headers.Given as goal

abbrev pub invariant-lines : goal.invariant-lines
invariant-lines l = l.text ≡ l.fn.text ++ header_lines l.upgrade (take l.header-index l.headers)
