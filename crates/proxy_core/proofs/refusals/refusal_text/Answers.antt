use Rattle.std.proofs.Common.{sym, ap}
use Rattle.std.specs.Fmt.{digits}
use Rattle.proxy_core.specs.Refusals.{refusal_text}
use Rattle.proxy_core.proofs.refusals.refusal_text.Goals as goal

pub returns-in-BadHead : goal.returns-in-BadHead
unfolding digits
returns-in-BadHead c = ap refusal_text (sym c.in-BadHead.is)

pub returns-in-BadChunk : goal.returns-in-BadChunk
unfolding digits
returns-in-BadChunk c = ap refusal_text (sym c.in-BadChunk.is)

pub returns-in-BadPath : goal.returns-in-BadPath
unfolding digits
returns-in-BadPath c = ap refusal_text (sym c.in-BadPath.is)

pub returns-in-NotFound : goal.returns-in-NotFound
unfolding digits
returns-in-NotFound c = ap refusal_text (sym c.in-NotFound.is)

pub returns-in-TooLarge : goal.returns-in-TooLarge
unfolding digits
returns-in-TooLarge c = ap refusal_text (sym c.in-TooLarge.is)

pub returns-in-Coding : goal.returns-in-Coding
unfolding digits
returns-in-Coding c = ap refusal_text (sym c.in-Coding.is)

pub returns-in-BadUpstream : goal.returns-in-BadUpstream
unfolding digits
returns-in-BadUpstream c = ap refusal_text (sym c.in-BadUpstream.is)

pub returns-in-Link : goal.returns-in-Link
unfolding digits
returns-in-Link c = ap refusal_text (sym c.in-Link.is)

pub returns-in-Memory : goal.returns-in-Memory
unfolding digits
returns-in-Memory c = ap refusal_text (sym c.in-Memory.is)
