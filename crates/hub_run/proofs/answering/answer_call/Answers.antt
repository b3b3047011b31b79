use Rattle.std.proofs.Common.{refl, ◌∙◌}
use Rattle.hub_run.proofs.RoutedLemmas.{made_answered}
use Rattle.hub_run.proofs.AnswerLemmas.{made_unvisited, made_undrawn, made_worked}
use Rattle.hub_run.proofs.answering.answer_call.Goals as goal

pub returns-in-Ok-Work-clause-answers : goal.returns-in-Ok-Work-clause-answers
returns-in-Ok-Work-clause-answers g c = λ start base request text last is read close_is.
    made_worked start _ _ _ request text c.args.path c.args.asked c.in-Ok-Work.field-0 c.in-Ok-Work.work c.work_done-told.result c.args.close last _ _
    is read close_is c.requires.path c.in-Ok-Work.field-0-is (c.in-Ok-Work.ensures.asks start base) c.work_done-told.ensures.done c.text_of_tale.ensures.says

pub returns-in-Ok-Answer-clause-answers : goal.returns-in-Ok-Answer-clause-answers
returns-in-Ok-Answer-clause-answers g c = λ start base request text last is read close_is.
    made_answered start _ _ _ request text c.args.asked c.in-Ok-Answer.field-0 c.in-Ok-Answer.reply c.way_of-way.result c.args.close last _ _
    is read close_is c.way_of-way.ensures c.in-Ok-Answer.field-0-is (c.in-Ok-Answer.ensures.asks start base)
    (c.text_of_reply-text.ensures.goes start (c.in-Ok-Answer.ensures.base ∙ base))

pub returns-in-Err-NoDraw-clause-answers : goal.returns-in-Err-NoDraw-clause-answers
returns-in-Err-NoDraw-clause-answers g c = λ start base request text last is read close_is.
    made_undrawn start _ _ request text c.args.asked c.in-Err-NoDraw.field-0 c.args.close last _ _
    is read close_is c.in-Err-NoDraw.field-0-is (c.in-Err-NoDraw.ensures.asks start base) c.text_of_no_draw.ensures.says

pub returns-in-Err-Memory-clause-answers : goal.returns-in-Err-Memory-clause-answers
returns-in-Err-Memory-clause-answers g c = λ start base request text last is read close_is.
    made_unvisited start _ _ request text c.args.asked c.in-Err-Memory.field-0 last _ _
    is read c.in-Err-Memory.field-0-is (c.in-Err-Memory.ensures.asks start base) refl refl
