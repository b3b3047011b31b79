use Rattle.std.proofs.Common.{◌∙◌, sym}
use Rattle.std.proofs.lemmas.List.{at_drop_more}
use Rattle.row_indexes.specs.Numbers.{number_from}
use Rattle.row_indexes.proofs.numbers.number_of.Goals as goal

pub loop-byte-preserved : goal.loop-byte-preserved
loop-byte-preserved c = sym (at_drop_more (number_from c.loop-byte.number) c.args.bytes.now c.loop-byte.byte-index 0 c.loop-byte-test.true) ∙ c.loop-byte.invariant
