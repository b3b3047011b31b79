use Rattle.std.proofs.Common.{rules, ◌≡◌, ◌++◌, [], All, Some, length, map, reverse, take, drop, subst, sym, ap, ◌∙◌}
use Rattle.std.proofs.Math.Seq.{take-append_seam}
use Rattle.std.proofs.lemmas.List.Elements.{All-nil, All-weaker}
use Rattle.desk.specs.Seats.{only}
use Rattle.keeper.specs.Pasts.{entries_of}
use Rattle.hub_run.specs.Connections.{sink_told, source_told}
use Rattle.hub_serve.specs.Shifts.{AreOf, IsShift, IsWhole, all_own, kit_after, kit_before, shifts_of, split_from}
use Rattle.hub_serve.proofs.ShiftLemmas.{shift_none}
use Rattle.hub_serve.proofs.crew.serve_as.Goals as goal

pub run-doors-requires-clause-of : goal.run-doors-requires-clause-of
run-doors-requires-clause-of g c κs within =
    subst (λ l. All (λ w. w.pass.of ≡ c.args.desk.now) l) (sym c.as_mut_slice.ensures.value)
    (All-weaker (λ w. (w.pass ≡ split_from c.args.pass.now) × (entries_of w.shift ≡ []) × (w.kit ≡ w.lent.value)) (λ w. w.pass.of ≡ c.args.desk.now)
    (λ w idle. ap (λ p. p.of) idle.0 ∙ c.requires.of) _ c.in-Ok.ensures.idle)

pub run-doors-requires-clause-shift : goal.run-doors-requires-clause-shift
run-doors-requires-clause-shift g c κs within =
    subst (λ l. All (λ w. IsShift g.L.Listener.are_sides g.Q.Serves.ends (source_told g.L.In.Source) (sink_told g.L.Out.Sink) (split_from c.of-first.result.value) w.lent.value (entries_of w.shift) w.pass w.kit) l)
    (sym c.as_mut_slice.ensures.value)
    (All-weaker (λ w. (w.pass ≡ split_from c.args.pass.now) × (entries_of w.shift ≡ []) × (w.kit ≡ w.lent.value))
    (λ w. IsShift g.L.Listener.are_sides g.Q.Serves.ends (source_told g.L.In.Source) (sink_told g.L.Out.Sink) (split_from c.of-first.result.value) w.lent.value (entries_of w.shift) w.pass w.kit)
    (λ w idle. shift_none g.L.Listener.are_sides g.Q.Serves.ends (source_told g.L.In.Source) (sink_told g.L.Out.Sink) (split_from c.of-first.result.value) w.lent.value (entries_of w.shift) w.pass w.kit
    (idle.0 ∙ ap split_from (sym c.of-first.ensures)) idle.2 idle.1)
    _ c.in-Ok.ensures.idle)

pub join_all-requires-clause-workers : goal.join_all-requires-clause-workers
join_all-requires-clause-workers g c =
    let xs = c.run-doors.new.workers in
    let items = c.in-Ok.workers.items in
    let n = c.in-Ok.workers.len in
    let same : n ≡ length xs = search rules in
    subst (λ l. All (λ w. w.pass.of ≡ c.args.desk.now) l) (sym (ap (λ k. take k (xs ++ drop (length xs) items)) same ∙ take-append_seam xs (drop (length xs) items))) c.run-doors.ensures.of

pub join_all-requires-clause-shift : goal.join_all-requires-clause-shift
join_all-requires-clause-shift g c =
    let xs = c.run-doors.new.workers in
    let items = c.in-Ok.workers.items in
    let n = c.in-Ok.workers.len in
    let same : n ≡ length xs = search rules in
    subst (λ l. All (λ w. IsShift g.L.Listener.are_sides g.Q.Serves.ends (source_told g.L.In.Source) (sink_told g.L.Out.Sink) (split_from c.of-first.result.value) w.lent.value (entries_of w.shift) w.pass w.kit) l)
    (sym (ap (λ k. take k (xs ++ drop (length xs) items)) same ∙ take-append_seam xs (drop (length xs) items))) c.run-doors.ensures.shift

pub join_all-requires-clause-others : goal.join_all-requires-clause-others
join_all-requires-clause-others g c =
    let xs = c.run-doors.new.workers in
    let items = c.in-Ok.workers.items in
    let n = c.in-Ok.workers.len in
    let same : n ≡ length xs = search rules in
    let long : n ≡ length items = search rules in
    let hired = c.in-Ok.ensures.others in
    let others : c.hire.new.pass.others ≡ Some (length items) = ap (λ p. p.others) hired in (
      others ∙ ap Some (sym long ∙ same ∙ ap length (sym (ap (λ k. take k (xs ++ drop (length xs) items)) same ∙ take-append_seam xs (drop (length xs) items)))),
      ap (λ p. p.alone) hired ∙ ap only (sym others),
    )

pub returns-clause-mine : goal.returns-clause-mine
returns-clause-mine g c =
    c.join_all.ensures.mine ∙ ap (λ p. all_own (split_from p) c.hire.new.pass.mine (shifts_of c.join_all.result)) c.of-first.ensures
    ∙ ap (λ l. all_own (split_from c.args.pass.now) l (shifts_of c.join_all.result)) (ap (λ p. p.mine) c.in-Ok.ensures.others)

pub returns-clause-shifts : goal.returns-clause-shifts
returns-clause-shifts g c =
    subst (λ p. All (IsWhole g.L.Listener.are_sides g.Q.Serves.ends (source_told g.L.In.Source) (sink_told g.L.Out.Sink) (split_from p)) (shifts_of c.join_all.result)) c.of-first.ensures c.join_all.ensures.shifts

pub returns-in-Err-clause-mine : goal.returns-in-Err-clause-mine
returns-in-Err-clause-mine g c =
    ap (λ p. p.mine) c.in-Err.ensures.kept.0 ∙ ap (λ l. all_own (split_from c.args.pass.now) c.args.pass.now.mine l) (sym c.requires.none.1)

pub returns-in-Err-clause-shifts : goal.returns-in-Err-clause-shifts
returns-in-Err-clause-shifts g c =
    subst (All (IsWhole g.L.Listener.are_sides g.Q.Serves.ends (source_told g.L.In.Source) (sink_told g.L.Out.Sink) (split_from c.args.pass.now))) (sym c.requires.none.1)
    (All-nil (IsWhole g.L.Listener.are_sides g.Q.Serves.ends (source_told g.L.In.Source) (sink_told g.L.Out.Sink) (split_from c.args.pass.now)))

pub returns-clause-kits : goal.returns-clause-kits
returns-clause-kits g c =
    let xs = c.run-doors.new.workers in
    let items = c.in-Ok.workers.items in
    let n = c.in-Ok.workers.len in
    let same : n ≡ length xs = search rules in
    let whole = ap (λ k. take k (xs ++ drop (length xs) items)) same ∙ take-append_seam xs (drop (length xs) items) in
    subst (λ l. AreOf kit_before kit_after l (shifts_of c.join_all.result) c.join_all.new.kits.items)
    (ap (λ l. reverse (map (λ w. w.lent.value) l)) whole ∙ ap reverse c.run-doors.ensures.lent ∙ ap (λ l. reverse (map (λ w. w.lent.value) l)) c.as_mut_slice.ensures.value
    ∙ sym c.in-Ok.ensures.lent.1)
    c.join_all.ensures.kits

pub returns-in-Err-clause-kits : goal.returns-in-Err-clause-kits
returns-in-Err-clause-kits g c =
    subst (λ xss. AreOf kit_before kit_after c.args.kits.now.items xss c.hire.new.kits.items) (sym c.requires.none.1) (sym c.in-Err.ensures.kept.1)
