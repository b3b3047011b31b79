use Rattle.std.proofs.Common.{sym, ap, ◌∙◌}
use Rattle.std.specs.Option.{option_copied}
use Rattle.key_texts.specs.KeyTexts.{recipient_text}
use Rattle.key_texts.proofs.Results.{same_some, not_none}
use Rattle.key_texts.proofs.ShareTexts.{share_front, share_back}
use Rattle.key_texts.proofs.textual.ShareKeyTextual.of_text.Goals as goal

pub returns-in-Some : goal.returns-in-Some
returns-in-Some c x valid same =
    let back = sym (ap option_copied c.in-Some.is) ∙ c.cut_at-cut.ensures.back ∙ share_back x c.args.text.now valid same in
    c.share_of.ensures x valid (sym (c.cut_at-cut.ensures.front ∙ share_front x c.args.text.now valid same)) (sym (same_some _ _ back))

pub returns-in-None : goal.returns-in-None
returns-in-None c x valid same =
    absurd (not_none (recipient_text x.to) (sym (ap option_copied c.in-None.is) ∙ c.cut_at-cut.ensures.back ∙ share_back x c.args.text.now valid same))
