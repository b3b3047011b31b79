use Rattle.std.proofs.Common.{◌≡◌, drop}
use Rattle.http_wire.specs.Fields.{values_of}
use Rattle.http_wire.proofs.fields.first_named.Given as goal

abbrev pub invariant-loop-i : goal.invariant-loop-i
invariant-loop-i l = values_of l.name (drop l.i l.headers) ≡ values_of l.name l.headers
