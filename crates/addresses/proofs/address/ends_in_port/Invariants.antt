use Rattle.std.proofs.Common.{◌≡◌, drop}
use Rattle.addresses.specs.Addresses.{ends_in_port}
use Rattle.addresses.proofs.address.ends_in_port.Given as goal

abbrev pub invariant-loop-i : goal.invariant-loop-i
invariant-loop-i l = ends_in_port (drop l.i l.fn.bytes) ≡ ends_in_port l.fn.bytes
