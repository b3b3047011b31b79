use Rattle.std.proofs.Common.{ℕ, List, subst, arith}
use Rattle.late_routes.specs.Arrivals.{Arrives, IsFirst, none}
use Rattle.late_routes.specs.Plans.{is_due}
use Rattle.late_routes.specs.declared.plan.Outstanding.{Outstanding}
use Rattle.late_routes.proofs.ArrivalLemmas.{arrived_more}
use Rattle.late_routes.proofs.arrival.arrive_due.Goals as goal

pub due-init : goal.due-init
due-init c = (none, omega arith)

pub due-preserved : goal.due-preserved
due-preserved c =
    let f = c.in-Some.ensures in
    let ok = c.in_ok-arrive_at.ensures.ok in
    let first : IsFirst (is_due c.args.number) c.due.messages.items c.in-Some.at f.0 = subst (λ (xs : List Outstanding). IsFirst (is_due c.args.number) xs c.in-Some.at f.0) c.as_slice.ensures.value f.1 in
    let came : Arrives c.due.table ok.0.call 0 ok.1 c.arrive_at.new.table = subst (λ (n : ℕ). Arrives c.due.table ok.0.call n ok.1 c.arrive_at.new.table) c.zero.ensures ok.3 in
    let fewer = c.in_ok-arrive_at.ensures.fewer in
    let few = c.due.invariant.1 in (
      arrived_more (is_due c.args.number) 0 c.args.table.now c.due.table c.arrive_at.new.table c.args.messages.now.items c.due.messages.items c.arrive_at.new.messages.items c.in-Some.at f.0 ok.0 ok.1 c.due.invariant.0 first ok.2 came ok.4,
      omega (arith, fewer, few),
    )
