use Rattle.hub_link.proofs.ReplyLemmas.{one_reply}
use Rattle.hub_link.proofs.laws.reply_is_one.Goals as goal

pub returns : goal.returns
returns c = one_reply
