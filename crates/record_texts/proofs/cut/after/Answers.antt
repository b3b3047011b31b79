use Rattle.std.proofs.lemmas.Bool.Decides.{Decides-eqb}
use Rattle.std.proofs.lemmas.Slice.Eq.{strip_prefix_is}
use Rattle.record_texts.proofs.Cuts.{front_is}
use Rattle.record_texts.proofs.cut.after.Goals as goal

pub returns : goal.returns
returns c = front_is c.args.text.now c.args.word.now c.strip_prefix.result (strip_prefix_is Decides-eqb c.args.text.now c.args.word.now c.strip_prefix.result c.strip_prefix.ensures.cases)
