use Rattle.std.proofs.Common.{rules, ◌≡◌, ◌++◌, ◌∷◌, [], IfSome, subst}
use Rattle.std.proofs.lemmas.List.Elements.{All-pop}
use Rattle.std.specs.Option.{option_to_list}
use Rattle.worker_hall.specs.Shifts.{IsShift}
use Rattle.worker_hall.proofs.ShiftLemmas.{joined_all, joined_none, joined_push}
use Rattle.worker_hall.proofs.workers.join_all.Goals as goal

pub loop-worker-init : goal.loop-worker-init
loop-worker-init g c = (
  search rules,
  search rules,
  search rules,
  c.requires.shift,
  joined_none g.L.Listener.are_sides g.S.Serves.served (λ w. w.lent.value) c.args.servers.now.items c.args.workers.items c.new-tally.result c.requires.out c.new-tally.ensures,
  search rules,
)

pub loop-worker-preserved : goal.loop-worker-preserved
loop-worker-preserved g c =
    let loop = c.loop-worker in
    let worker = c.in-Some.worker in
    let shifts = All-pop (λ w. IsShift g.L.Listener.are_sides g.S.Serves.served w.lent.value w.tally w.server) _ _ _ c.pop.ensures.items loop.invariant.3 in
    let shift : IsShift g.L.Listener.are_sides g.S.Serves.served worker.lent.value worker.tally worker.server =
    subst (λ r. IfSome r (λ w. IsShift g.L.Listener.are_sides g.S.Serves.served w.lent.value w.tally w.server)) c.in-Some.is shifts.1 in
    let popped : loop.workers.items ≡ c.pop.new.self.items ++ worker ∷ [] =
    subst (λ r. loop.workers.items ≡ c.pop.new.self.items ++ option_to_list r) c.in-Some.is c.pop.ensures.items in
    let pushed : c.push.new.self.items ≡ loop.servers.items ++ worker.server ∷ [] = search rules in (
      search rules,
      search rules,
      search rules,
      shifts.0,
      joined_push g.L.Listener.are_sides g.S.Serves.served (λ w. w.lent.value) _ loop.servers.items c.push.new.self.items worker.server loop.workers.items
          c.pop.new.self.items worker loop.tally c.add.new.self worker.tally loop.invariant.4 shift popped pushed c.add.ensures,
      search rules,
    )

pub returns-clause-served : goal.returns-clause-served
returns-clause-served g c =
    let none : c.loop-worker.workers.items ≡ [] = search rules in
    joined_all g.L.Listener.are_sides g.S.Serves.served (λ w. w.lent.value) _ c.loop-worker.servers.items c.loop-worker.workers.items c.loop-worker.tally none
    c.loop-worker.invariant.4
