use Rattle.std.proofs.Common.{List, subst}
use Rattle.services_run.specs.New.{IsRepeated}
use Rattle.services_run.specs.Refused.{RefusedBy}
use Rattle.services_run.specs.declared.place.Managed.{Managed}
use Rattle.services_run.specs.declared.services.ServicesError.{ServicesError}
use Rattle.services_run.specs.declared.services.ServicesError.TheVariants.{Repeated}
use Rattle.hub_serving.proofs.Apart.{none_repeated}
use Rattle.hub_serving.proofs.services.services_of.Goals as goal

-- two of one name or one target would not be apart
pub unreachable-requires : goal.unreachable-requires
unreachable-requires c =
    let at = c.in-Err-Repeated.field-0-0 in
    let refused : RefusedBy c.in_ok-list.list.items (Repeated at) =
    subst (λ (e : ServicesError). RefusedBy c.in_ok-list.list.items e) c.in-Err-Repeated.field-0-is c.in-Err-Repeated.ensures.err in
    none_repeated c.args.services.now c.requires.apart at (subst (λ (ms : List Managed). IsRepeated ms at) c.in_ok-list.ensures refused.0)
