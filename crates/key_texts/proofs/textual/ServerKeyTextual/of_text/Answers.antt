use Rattle.std.proofs.Common.{sym, ap, ◌∙◌}
use Rattle.hub_kit.specs.ServerKeys.{key_read}
use Rattle.hub_kit.proofs.NameTexts.{key_reads}
use Rattle.key_texts.proofs.Results.{same_ok, not_err}
use Rattle.key_texts.proofs.textual.ServerKeyTextual.of_text.Goals as goal

pub returns-in-Ok : goal.returns-in-Ok
returns-in-Ok c x valid same =
    same_ok _ _ (sym c.in-Ok.is ∙ c.read_key.ensures ∙ ap key_read (c.as_bytes.ensures.value ∙ sym same) ∙ key_reads x.user x.server valid.user valid.server)

pub returns-in-Err : goal.returns-in-Err
returns-in-Err c x valid same =
    not_err _ x (sym c.in-Err.is ∙ c.read_key.ensures ∙ ap key_read (c.as_bytes.ensures.value ∙ sym same) ∙ key_reads x.user x.server valid.user valid.server)
