use Rattle.std.proofs.Common.{[], ◌∷◌, sym, subst, ◌∙◌, IsUtf8}
use Rattle.hub_view.proofs.MomentTexts.{spelled, moment_is_text}
use Rattle.hub_view.proofs.dates.cells_of.Goals as goal

pub returns : goal.returns
returns c =
    let date = c.date_of-date.result in
    let same = (λ i. c.tens.ensures i ∷ c.ones.ensures i ∷ c.tens-2.ensures i ∷ c.ones-2.ensures i ∷ 45 ∷ c.tens-3.ensures i ∷ c.ones-3.ensures i ∷ 45
    ∷ c.tens-4.ensures i ∷ c.ones-4.ensures i ∷ 84 ∷ c.tens-5.ensures i ∷ c.ones-5.ensures i ∷ 58 ∷ c.tens-6.ensures i ∷ c.ones-6.ensures i ∷ 58
    ∷ c.tens-7.ensures i ∷ c.ones-7.ensures i ∷ 90 ∷ [])
    ∙ spelled c.args.seconds date.year date.month date.day c.date_of-date.ensures.year c.date_of-date.ensures.month c.date_of-date.ensures.day in
    record { text = same; utf8 = subst IsUtf8 (sym same) (moment_is_text c.args.seconds c.requires) }
