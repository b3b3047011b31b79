use Rattle.std.proofs.Common.{rules, ◌≡◌, ◌+◌, ◌++◌, ◌∷◌, [], All, IfSome, Some, length, vec_len, subst, sym, ap, ◌∙◌, arith}
use Rattle.std.proofs.lemmas.List.{length-append}
use Rattle.std.proofs.lemmas.List.Elements.{All-pop, All-push}
use Rattle.std.specs.Option.{option_to_list}
use Rattle.desk.proofs.Prefixes.{prefix_trans}
use Rattle.desk.specs.Seats.{only}
use Rattle.keeper.specs.Pasts.{entries_of}
use Rattle.hub_run.specs.Connections.{sink_told, source_told}
use Rattle.hub_serve.specs.Shifts.{IsShift, IsWhole, count_of, kit_after, kit_before, shifts_of, split_from}
use Rattle.hub_serve.proofs.ShiftLemmas.{all_own_joined, count_push, of_all, of_joined, one_back, shift_whole}
use Rattle.hub_serve.proofs.workers.join_all.Goals as goal

pub loop-worker-preserved : goal.loop-worker-preserved
loop-worker-preserved g c =
    let loop = c.loop-worker in
    let worker = c.in-Some.worker in
    let both = c.join.ensures.both in
    let shifts = All-pop (λ w. IsShift g.L.Listener.are_sides g.Q.Serves.ends (source_told g.L.In.Source) (sink_told g.L.Out.Sink) (split_from c.args.first.now.value) w.lent.value (entries_of w.shift) w.pass w.kit)
    _ _ _ c.pop.ensures.items loop.invariant.10 in
    let shift : IsShift g.L.Listener.are_sides g.Q.Serves.ends (source_told g.L.In.Source) (sink_told g.L.Out.Sink) (split_from c.args.first.now.value) worker.lent.value (entries_of worker.shift) worker.pass worker.kit =
    subst (λ r. IfSome r (λ w. IsShift g.L.Listener.are_sides g.Q.Serves.ends (source_told g.L.In.Source) (sink_told g.L.Out.Sink) (split_from c.args.first.now.value) w.lent.value (entries_of w.shift) w.pass w.kit))
    c.in-Some.is shifts.1 in
    let less : vec_len loop.workers ≡ vec_len c.pop.new.self + 1 = search rules in
    let popped : loop.workers.items ≡ c.pop.new.self.items ++ worker ∷ [] =
    subst (λ r. loop.workers.items ≡ c.pop.new.self.items ++ option_to_list r) c.in-Some.is c.pop.ensures.items in
    let pushed : c.push.new.self.items ≡ loop.kits.items ++ worker.kit ∷ [] = search rules in
    let more = count_push (shifts_of loop.tally) (entries_of worker.shift) in
    let sum : count_of (shifts_of c.add.new.self) ≡ c.add.new.self.count =
    ap count_of c.add.ensures.shifts ∙ omega (arith, more, loop.invariant.13, worker.counted, c.add.ensures.count) in (
      search rules,
      search rules,
      prefix_trans _ _ _ loop.invariant.2 c.join.ensures.begins,
      (All-pop (λ w. w.pass.of ≡ c.args.desk.now) _ _ _ c.pop.ensures.items loop.invariant.3).0,
      search rules,
      search rules,
      search rules,
      search rules,
      one_back loop.pass.others c.join.new.pass.others (vec_len loop.workers) (vec_len c.pop.new.self) loop.invariant.8 less (ap (λ p. p.others) both),
      ap (λ p. p.alone) both ∙ ap only (sym (ap (λ p. p.others) both)),
      shifts.0,
      subst (All (IsWhole g.L.Listener.are_sides g.Q.Serves.ends (source_told g.L.In.Source) (sink_told g.L.Out.Sink) (split_from c.args.first.now.value))) (sym c.add.ensures.shifts)
          (All-push (IsWhole g.L.Listener.are_sides g.Q.Serves.ends (source_told g.L.In.Source) (sink_told g.L.Out.Sink) (split_from c.args.first.now.value)) _ _ loop.invariant.11
          (shift_whole g.L.Listener.are_sides g.Q.Serves.ends (source_told g.L.In.Source) (sink_told g.L.Out.Sink) (split_from c.args.first.now.value) worker.lent.value (entries_of worker.shift) worker.pass worker.kit shift)),
      all_own_joined (split_from c.args.first.now.value) c.args.pass.now.mine (shifts_of loop.tally) (shifts_of c.add.new.self) (entries_of worker.shift) loop.pass.mine
          c.join.new.pass.mine worker.pass loop.invariant.12 shift.0 (ap (λ p. p.mine) both) c.add.ensures.shifts,
      sum,
      of_joined (λ w. w.lent.value) kit_before kit_after _ loop.kits.items c.push.new.self.items worker.kit loop.workers.items c.pop.new.self.items worker
          (shifts_of loop.tally) (shifts_of c.add.new.self) (entries_of worker.shift) loop.invariant.14 loop.invariant.15 shift.1 popped pushed c.add.ensures.shifts,
      ap length c.add.ensures.shifts ∙ omega (
        arith,
        loop.invariant.15,
        length-append (shifts_of loop.tally) (entries_of worker.shift ∷ []),
        ap length pushed,
        length-append loop.kits.items (worker.kit ∷ []),
      ),
      search rules,
    )

pub returns-clause-kits : goal.returns-clause-kits
returns-clause-kits g c =
    let none : c.loop-worker.workers.items ≡ [] = search rules in
    of_all (λ w. w.lent.value) kit_before kit_after _ c.loop-worker.kits.items c.loop-worker.workers.items (shifts_of c.loop-worker.tally) none
    c.loop-worker.invariant.14
