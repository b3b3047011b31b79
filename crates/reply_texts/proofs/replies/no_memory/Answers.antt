use Rattle.std.proofs.Common.{refl}
use Rattle.std.specs.Fmt.{digits}
use Rattle.json.specs.Print.{print_from}
use Rattle.reply_texts.proofs.replies.no_memory.Goals as goal

pub returns : goal.returns
unfolding digits print_from
returns c = refl
