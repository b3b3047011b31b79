use Rattle.std.proofs.Common.{sym, ◌∙◌}
use Rattle.std.proofs.lemmas.Fmt.{parse-decimal}
use Rattle.key_texts.proofs.Results.{same_ok, not_err}
use Rattle.key_texts.proofs.textual.U64Textual.of_text.Goals as goal

pub returns-in-Ok : goal.returns-in-Ok
returns-in-Ok c x valid same =
    same_ok _ _ (sym c.in-Ok.is ∙ parse-decimal 64 x c.args.text.now c.parse.result valid valid (sym same) c.parse.ensures.value.0)

pub returns-in-Err : goal.returns-in-Err
returns-in-Err c x valid same =
    not_err _ x (sym c.in-Err.is ∙ parse-decimal 64 x c.args.text.now c.parse.result valid valid (sym same) c.parse.ensures.value.0)
