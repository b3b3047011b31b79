use Rattle.std.proofs.Common.{IsUtf8, subst, sym}
use Rattle.http_wire.proofs.head.headers_of.Goals as goal

pub text_of-requires : goal.text_of-requires
text_of-requires c = subst IsUtf8 (sym c.of.ensures) (c.requires.texts c.loop-span.span-index _ c.loop-span-test.true)
