use Rattle.std.proofs.Common.{◌∙◌, inl, inr}
use Rattle.std.specs.Fmt.{digits}
use Rattle.proxy_api.proofs.TextLemmas.{written_as}
use Rattle.proxy_api.proofs.texts.write_reply.Goals as goal

pub returns-in-Ok-clause-replied : goal.returns-in-Ok-clause-replied
returns-in-Ok-clause-replied g c = inl (written_as _ _ _ _ _ _ _ _ _ (c.as_slice.ensures ∙ c.in-Ok.ensures) c.status_of.ensures c.write_text.ensures.written)

pub returns-in-Err-clause-replied : goal.returns-in-Err-clause-replied
unfolding digits
returns-in-Err-clause-replied g c = inr c.write_text-in-Err.ensures.written
