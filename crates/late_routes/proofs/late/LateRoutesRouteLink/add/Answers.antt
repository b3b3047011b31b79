use Rattle.std.proofs.Common.{Bool, List, [], ◌∷◌, Option, ap, subst, sym}
use Rattle.std.specs.Prelude.{is_ok}
use Rattle.hub_devices.specs.Calls.{Grows, told_unit}
use Rattle.hub_devices.specs.declared.calls.Routing.{Routing}
use Rattle.hub_devices.specs.declared.calls.Routing.TheVariants as Route
use Rattle.hub_devices.specs.declared.calls.Told.{Told}
use Rattle.hub_devices.proofs.CallLemmas.{Grows_call}
use Rattle.route_table.specs.Table.{Table}
use Rattle.late_routes.specs.declared.plan.Outstanding.{Outstanding}
use Rattle.late_routes.specs.Arrivals.{Sends}
use Rattle.late_routes.proofs.ArrivalLemmas.{sent_so}
use Rattle.late_routes.proofs.late.LateRoutesRouteLink.add.Goals as goal

pub returns-clause-calls : goal.returns-clause-calls
returns-clause-calls c =
    subst (λ (calls : Option (List (Routing × Told))). Grows calls ((Route.Add c.args.path.now c.args.target.now c.args.serial, told_unit c.tell.result) ∷ []) c.tell.new.self.log.calls) (ap (λ l. l.calls) c.try_send-done.ensures.log)
    (Grows_call (λ (call : Routing). (call, told_unit c.tell.result)) c.add_call-logged.result _ _ _ c.add_call-logged.ensures c.tell.ensures.grows c.tell.ensures.lost)

pub returns-clause-sent : goal.returns-clause-sent
returns-clause-sent c = λ some.
    subst (λ (t : Table). Sends c.args.self.now.plans.items c.args.self.now.made (Route.Add c.args.path.now c.args.target.now c.args.serial) c.args.self.now.table c.args.self.now.outstanding.items t c.tell.new.self.outstanding.items (is_ok c.tell.result)) (sym c.tell.ensures.kept)
    (subst (λ (ms : List Outstanding). Sends c.args.self.now.plans.items c.args.self.now.made (Route.Add c.args.path.now c.args.target.now c.args.serial) c.args.self.now.table c.args.self.now.outstanding.items c.try_send-done.new.self.table ms (is_ok c.tell.result)) (sym c.tell.ensures.messages)
    (sent_so
    (λ (x : Routing) (b : Bool). Sends c.args.self.now.plans.items c.args.self.now.made x c.args.self.now.table c.args.self.now.outstanding.items c.try_send-done.new.self.table c.try_send-done.new.self.outstanding.items b)
    c.add_call-call.result (Route.Add c.args.path.now c.args.target.now c.args.serial) c.try_send-done.result (is_ok c.tell.result) c.tell.new.self.log.calls c.add_call-call.ensures c.try_send-done.ensures.sent c.try_send-done.ensures.none c.tell.ensures.wanting c.tell.ensures.told some))
