use Rattle.std.proofs.Common.{List, ◌∷◌, [], subst, ◌∙◌}
use Rattle.hub_devices.specs.Calls.{Grows}
use Rattle.hub_devices.specs.declared.calls.ListedRoute.{ListedRoute}
use Rattle.hub_devices.specs.declared.calls.Routing.TheVariants as Route
use Rattle.hub_devices.specs.declared.calls.Told.TheVariants.{Listed}
use Rattle.hub_devices.proofs.CallLemmas.{Grows_lost}
use Rattle.hub_devices.proofs.mem_routes.MemRouteLinkRouteLink.list.Goals as goal

pub returns-then-next-clause-failed : goal.returns-then-next-clause-failed
returns-then-next-clause-failed c = c.keep.ensures.grows

-- the copies are the routes
pub returns-then-keep-clause-calls : goal.returns-then-keep-clause-calls
returns-then-keep-clause-calls c = subst (λ (listed : List ListedRoute). Grows c.args.self.now.log.calls ((Route.List, Listed listed) ∷ []) c.keep-in-Ok.new.self.calls) (c.from_vec.ensures ∙ c.in-Ok.ensures.same) c.keep-in-Ok.ensures.grows

pub returns-else-keep-clause-failed : goal.returns-else-keep-clause-failed
returns-else-keep-clause-failed c = Grows_lost _ _ _ (c.keep-in-Ok.ensures.none c.if-keep.false)

pub returns-in-Err-clause-failed : goal.returns-in-Err-clause-failed
returns-in-Err-clause-failed c = c.keep-in-Err.ensures.grows
