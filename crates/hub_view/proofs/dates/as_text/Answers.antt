use Rattle.hub_view.proofs.dates.as_text.Goals as goal

pub returns-in-Err : goal.returns-in-Err
returns-in-Err c = absurd (c.in-Err.ensures.cases.0 c.requires)
