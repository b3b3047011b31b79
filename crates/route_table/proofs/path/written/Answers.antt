use Rattle.std.proofs.Common.{◌∙◌, ap}
use Rattle.std.proofs.lemmas.List.{take_all}
use Rattle.std.specs.List.{flat_map}
use Rattle.route_table.proofs.ListedLemmas.{key_byte, key_written}
use Rattle.route_table.proofs.path.written.Goals as goal

pub returns : goal.returns
returns c = c.bytes.invariant ∙ (ap (flat_map key_byte) (take_all c.bytes.b-index c.args.key.now c.bytes-test.false) ∙ key_written c.args.key.now c.requires)
