use Rattle.std.proofs.Common.{[], ◌∷◌, Err, inr, refl, subst}
use Rattle.hub_devices.specs.declared.link_error.LinkError.{LinkError}
use Rattle.hub_devices.specs.declared.link_error.LinkError.TheVariants as Link
use Rattle.hub_link.specs.Links.{Asks}
use Rattle.hub_link.proofs.AskLemmas.{one_ask}
use Rattle.proxy_link.proofs.asks.ask_status.Goals as goal

pub returns-in-Err-Memory-clause-err : goal.returns-in-Err-Memory-clause-err
returns-in-Err-Memory-clause-err g c = (
  (c.args.request.now, Err Link.Memory) ∷ [],
  subst (λ (e : LinkError). Asks g.L.HubLink.asked g.L.HubLink.does c.args.link.now ((c.args.request.now, Err e) ∷ []) c.ask.new.self) c.in-Err-Memory.field-0-is
      (one_ask g.L.HubLink.asked g.L.HubLink.does c.args.link.now c.ask.new.self c.args.request.now c.args.request.now (Err c.in-Err-Memory.field-0) refl
      c.in-Err-Memory.ensures.does c.in-Err-Memory.ensures.asked),
  inr (Err Link.Memory, refl),
)
