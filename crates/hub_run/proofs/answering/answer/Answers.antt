use Rattle.std.proofs.Common.{rules, ◌≢◌, inl, refl, Bool, subst}
use Rattle.hub_run.proofs.AnswerLemmas.{made_wanting, made_declined}
use Rattle.hub_run.specs.Steps.{Says}
use Rattle.hub_run.specs.Written.{written_bytes}
use Rattle.hub_api.specs.Refusals.{api_refusal}
use Rattle.hub_api.specs.declared.refusal.ApiRefusal.TheVariants.{Memory}
use Rattle.hub_run.proofs.answering.answer.Goals as goal

pub returns-in-Ok-path_for-clause-answers : goal.returns-in-Ok-path_for-clause-answers
returns-in-Ok-path_for-clause-answers g c = λ start base text is.
    c.answer_call.ensures.answers start base c.args.request text c.args.last is c.in-Ok.ensures c.closes_after-close.ensures.value

pub returns-in-Err-path_for-clause-answers : goal.returns-in-Err-path_for-clause-answers
returns-in-Err-path_for-clause-answers g c = λ start base text is.
    made_wanting start _ _ c.args.request text c.args.last _ _ is (inl refl) refl refl

pub returns-in-Err-Memory-clause-answers : goal.returns-in-Err-Memory-clause-answers
returns-in-Err-Memory-clause-answers g c = λ start base text is.
    made_wanting start _ _ c.args.request text c.args.last _ _ is (inl refl) refl refl

pub returns-in-Err : goal.returns-in-Err
returns-in-Err g c = record {
  of = refl;
  base = refl;
  alone = refl;
  last = λ e. c.text_of_refusal.ensures.last (c.closes_after-close.ensures.last e);
  answers = λ start base text is.
      let other : c.in-Err.refusal ≢ Memory = search rules in
      made_declined start _ c.args.request text c.in-Err.refusal c.args.last _ _ is (c.in-Err.ensures other)
      (subst (λ (close : Bool). Says (api_refusal c.in-Err.refusal) close (written_bytes c.text_of_refusal.result.0) c.text_of_refusal.result.1)
      c.closes_after-close.ensures.value c.text_of_refusal.ensures.says);
}
