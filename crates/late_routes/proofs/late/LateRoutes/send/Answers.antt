use Rattle.late_routes.proofs.ArrivalLemmas.{sends_so}
use Rattle.late_routes.proofs.late.LateRoutes.send.Goals as goal

pub returns-clause-sent : goal.returns-clause-sent
returns-clause-sent c =
    sends_so c.args.self.now.plans.items c.args.self.now.made c.args.call c.args.self.now.table c.args.self.now.outstanding.items c.arrive_due.new.table c.arrive_due.new.messages.items
    c.follow.new.self.table c.follow.new.self.outstanding.items c.follow.result c.arrive_due.ensures.arrived c.in_ok-arrive_due.ensures.all c.follow.ensures.goes
