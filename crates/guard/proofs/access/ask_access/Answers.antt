use Rattle.std.proofs.Common.{[], ◌∷◌, Ok, Err, refl, subst, List, ℕ, inl, inr}
use Rattle.hub_link.proofs.AskLemmas.{no_ask, one_ask}
use Rattle.guard.specs.Access.{access_request, IsAccessOf}
use Rattle.guard.proofs.GuardLemmas.{unanswered}
use Rattle.guard.proofs.access.ask_access.Goals as goal

pub returns-in_default-clause-err : goal.returns-in_default-clause-err
returns-in_default-clause-err g c = ([], no_ask g.H.HubLink.asked g.H.HubLink.does c.args.link.now, inl refl)

pub returns-in-Err-clause-err : goal.returns-in-Err-clause-err
returns-in-Err-clause-err g c =
    let request = access_request c.args.key.now c.args.token.now in (
      (request, Err c.in-Err.error) ∷ [],
      one_ask g.H.HubLink.asked g.H.HubLink.does c.args.link.now c.ask.new.self c.in-Ok.request request (Err c.in-Err.error) c.in-Ok.ensures
          c.in-Err.ensures.does c.in-Err.ensures.asked,
      unanswered request c.in-Err.error,
    )

pub returns-in-Ok-access_of-clause-ok : goal.returns-in-Ok-access_of-clause-ok
returns-in-Ok-access_of-clause-ok g c =
    let request = access_request c.args.key.now c.args.token.now in (
      (request, Ok c.in-Ok-ask.reply) ∷ [],
      one_ask g.H.HubLink.asked g.H.HubLink.does c.args.link.now c.ask.new.self c.in-Ok.request request (Ok c.in-Ok-ask.reply) c.in-Ok.ensures
          c.in-Ok-ask.ensures.does c.in-Ok-ask.ensures.asked,
      (
        c.in-Ok-ask.reply,
        refl,
        subst (λ (b : List ℕ). IsAccessOf b c.in-Ok-access_of.access) c.as_slice.ensures c.in-Ok-access_of.ensures,
      ),
    )

pub returns-clause-err : goal.returns-clause-err
returns-clause-err g c =
    let request = access_request c.args.key.now c.args.token.now in (
      (request, Ok c.in-Ok-ask.reply) ∷ [],
      one_ask g.H.HubLink.asked g.H.HubLink.does c.args.link.now c.ask.new.self c.in-Ok.request request (Ok c.in-Ok-ask.reply) c.in-Ok.ensures
          c.in-Ok-ask.ensures.does c.in-Ok-ask.ensures.asked,
      inr (Ok c.in-Ok-ask.reply, refl),
    )
