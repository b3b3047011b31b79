use Rattle.std.proofs.Common.{rules, ◌≡◌, refl}
use Rattle.worker_hall.proofs.ShiftLemmas.{served_long, served_none}
use Rattle.guard_serving.proofs.serving.serve_all.Goals as goal

pub returns-then-is_err-clause-served : goal.returns-then-is_err-clause-served
returns-then-is_err-clause-served g c =
    let none : c.unserved.result.served ≡ 0 = search rules in
    served_none g.L.Listener.are_sides g.G.Serves.served c.args.guards.now.items c.args.guards.now.items c.unserved.result.served refl none

pub returns-clause-as_many : goal.returns-clause-as_many
returns-clause-as_many g c =
    served_long g.L.Listener.are_sides g.G.Serves.served c.args.guards.now.items _ c.serve-tally.new.servers.items c.serve-tally.ensures.served
