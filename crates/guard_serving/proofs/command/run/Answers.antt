use Rattle.std.proofs.Common.{◌≡◌, refl}
use Rattle.hub_words.specs.Guard.{guard_read}
use Rattle.guard_serving.proofs.RunLemmas.{wanting}
use Rattle.guard_serving.proofs.command.run.Goals as goal

pub returns-in-Err-Memory-clause-ends : goal.returns-in-Err-Memory-clause-ends
returns-in-Err-Memory-clause-ends g c =
    wanting _ (c.args.kits.now.items ≡ c.args.kits.now.items) (guard_read c.args.words.now) _ _ _ _ c.unserved-in-Err-Memory.ensures refl
