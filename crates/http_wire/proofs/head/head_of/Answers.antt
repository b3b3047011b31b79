use Rattle.std.proofs.Common.{IsUtf8, subst, sym}
use Rattle.http_wire.proofs.HeadLemmas.{method_text, names_text}
use Rattle.http_wire.proofs.head.head_of.Goals as goal

pub text_of-requires : goal.text_of-requires
text_of-requires c = subst IsUtf8 (sym c.of.ensures) (method_text c.args.bytes.now c.args.spans.now c.args.r c.requires.head)

pub headers_of-requires-clause-texts : goal.headers_of-requires-clause-texts
headers_of-requires-clause-texts c = names_text c.args.bytes.now c.args.spans.now c.args.r c.requires.head
