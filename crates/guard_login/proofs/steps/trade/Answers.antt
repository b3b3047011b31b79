use Rattle.std.proofs.Common.{List, ℕ, [], ◌∷◌, Ok, Err, IfOk, refl, subst, inl, inr}
use Rattle.hub_link.proofs.AskLemmas.{no_ask, one_ask}
use Rattle.guard_login.specs.Signed.{traded, IsTradedBy}
use Rattle.guard_login.specs.Texts.{trade_text}
use Rattle.guard_login.proofs.LoginLemmas.{link_failed, traded_asks}
use Rattle.guard_login.proofs.steps.trade.Goals as goal

pub returns-in_default-clause-steps : goal.returns-in_default-clause-steps
returns-in_default-clause-steps g c = ([], no_ask g.H.HubLink.asked g.H.HubLink.does c.args.link.now, inl refl)

pub returns-in-Err-Failed-clause-steps : goal.returns-in-Err-Failed-clause-steps
returns-in-Err-Failed-clause-steps g c =
    let request = trade_text c.args.door.now c.args.code.now in (
      (request, Err c.in-Err-Failed.field-0) ∷ [],
      one_ask g.H.HubLink.asked g.H.HubLink.does c.args.link.now c.ask.new.self c.in-Ok.request request (Err c.in-Err-Failed.field-0) c.in-Ok.ensures
          c.in-Err-Failed.ensures.does c.in-Err-Failed.ensures.asked,
      link_failed _ traded request _ _ c.in-Err-Failed.field-0 c.in-Err-Failed.field-0-is c.in-Err-Failed.ensures.cause,
    )

pub returns-in-Err-Memory-clause-steps : goal.returns-in-Err-Memory-clause-steps
returns-in-Err-Memory-clause-steps g c =
    let request = trade_text c.args.door.now c.args.code.now in (
      (request, Err c.in-Err-Memory.field-0) ∷ [],
      one_ask g.H.HubLink.asked g.H.HubLink.does c.args.link.now c.ask.new.self c.in-Ok.request request (Err c.in-Err-Memory.field-0) c.in-Ok.ensures
          c.in-Err-Memory.ensures.does c.in-Err-Memory.ensures.asked,
      inr (Err c.in-Err-Memory.field-0, refl),
    )

pub returns-clause-steps : goal.returns-clause-steps
returns-clause-steps g c =
    let request = trade_text c.args.door.now c.args.code.now in (
      (request, Ok c.in-Ok-ask.reply) ∷ [],
      one_ask g.H.HubLink.asked g.H.HubLink.does c.args.link.now c.ask.new.self c.in-Ok.request request (Ok c.in-Ok-ask.reply) c.in-Ok.ensures
          c.in-Ok-ask.ensures.does c.in-Ok-ask.ensures.asked,
      traded_asks request c.in-Ok-ask.reply _ _ c.traded.result
          (subst (λ (b : List ℕ). IfOk c.traded.result (IsTradedBy b)) c.as_slice.ensures c.traded.ensures),
    )
