use Rattle.std.proofs.Common.{[], ◌∷◌, Err, refl, subst}
use Rattle.hub_devices.specs.declared.link_error.LinkError.{LinkError}
use Rattle.hub_devices.specs.declared.link_error.LinkError.TheVariants as Link
use Rattle.hub_link.specs.Links.{Asks}
use Rattle.hub_link.proofs.AskLemmas.{one_ask}
use Rattle.idle_culler.proofs.deletions.ask_status.Goals as goal

pub returns-in-Err-Failed-clause-err : goal.returns-in-Err-Failed-clause-err
returns-in-Err-Failed-clause-err g c = (
  Err Link.Failed,
  subst (λ (e : LinkError). Asks g.H.HubLink.asked g.H.HubLink.does c.args.link.now ((c.args.request.now, Err e) ∷ []) c.ask.new.self) c.in-Err-Failed.field-0-is
      (one_ask g.H.HubLink.asked g.H.HubLink.does c.args.link.now c.ask.new.self c.args.request.now c.args.request.now (Err c.in-Err-Failed.field-0) refl
      c.in-Err-Failed.ensures.does c.in-Err-Failed.ensures.asked),
  ([], c.args.request.now, refl),
)
