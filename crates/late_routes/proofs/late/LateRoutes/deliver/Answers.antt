use Rattle.std.proofs.Common.{refl, arith}
use Rattle.late_routes.specs.Arrivals.{none, any}
use Rattle.late_routes.proofs.ArrivalLemmas.{arrived_more, front}
use Rattle.late_routes.proofs.late.LateRoutes.deliver.Goals as goal

pub messages-init : goal.messages-init
messages-init c = (none, omega arith, refl, refl, refl)

pub messages-preserved : goal.messages-preserved
messages-preserved c =
    let ok = c.in_ok-arrive_at.ensures.ok in
    let before = c.messages.invariant in
    let fewer = c.in_ok-arrive_at.ensures.fewer in
    let counted = before.1 in (
      arrived_more any c.args.now c.args.self.now.table c.messages.self.table c.arrive_at.new.table c.args.self.now.outstanding.items c.messages.self.outstanding.items c.arrive_at.new.messages.items 0
          ok.0 ok.0 ok.1 before.0 (front c.messages.self.outstanding.items ok.0 ok.2) ok.2 ok.3 ok.4,
      omega (arith, fewer, counted),
      before.2,
      before.3,
      before.4,
    )
