use Rattle.std.proofs.Common.{◌≡◌, take}
use Rattle.std.specs.List.{flat_map}
use Rattle.std.specs.String.{string_bytes}
use Rattle.route_table.proofs.ListedLemmas.{key_byte}
use Rattle.route_table.proofs.path.written.Given as goal

abbrev pub invariant-bytes : goal.invariant-bytes
invariant-bytes l = string_bytes l.text ≡ flat_map key_byte (take l.b-index l.key)
