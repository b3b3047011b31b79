use Rattle.std.proofs.Common.{rules, ◌≡◌, ◌++◌, All, length, map, reverse, take, drop, subst, sym, ap, ◌∙◌}
use Rattle.std.proofs.Math.Seq.{take-append_seam}
use Rattle.std.proofs.lemmas.List.Elements.{All-weaker}
use Rattle.worker_hall.specs.Shifts.{AreServed, IsShift}
use Rattle.worker_hall.proofs.ShiftLemmas.{served_none, shift_none}
use Rattle.worker_hall.proofs.hall.serve_as.Goals as goal

pub run-doors-requires-clause-shift : goal.run-doors-requires-clause-shift
run-doors-requires-clause-shift g c κs within =
    subst (λ l. All (λ w. IsShift g.L.Listener.are_sides g.S.Serves.served w.lent.value w.tally w.server) l) (sym c.as_mut_slice.ensures.value)
    (All-weaker (λ w. (w.tally ≡ 0) × (w.server ≡ w.lent.value)) (λ w. IsShift g.L.Listener.are_sides g.S.Serves.served w.lent.value w.tally w.server)
    (λ w idle. shift_none g.L.Listener.are_sides g.S.Serves.served w.lent.value w.tally w.server idle.0 (sym idle.1)) _ c.in-Ok.ensures.idle)

pub join_all-requires-clause-shift : goal.join_all-requires-clause-shift
join_all-requires-clause-shift g c =
    let xs = c.run-doors.new.workers in
    let items = c.in-Ok.workers.items in
    let n = c.in-Ok.workers.len in
    let same : n ≡ length xs = search rules in
    subst (λ l. All (λ w. IsShift g.L.Listener.are_sides g.S.Serves.served w.lent.value w.tally w.server) l)
    (sym (ap (λ k. take k (xs ++ drop (length xs) items)) same ∙ take-append_seam xs (drop (length xs) items))) c.run-doors.ensures.shift

pub returns-clause-served : goal.returns-clause-served
returns-clause-served g c =
    let xs = c.run-doors.new.workers in
    let items = c.in-Ok.workers.items in
    let n = c.in-Ok.workers.len in
    let same : n ≡ length xs = search rules in
    let whole = ap (λ k. take k (xs ++ drop (length xs) items)) same ∙ take-append_seam xs (drop (length xs) items) in
    subst (λ l. AreServed g.L.Listener.are_sides g.S.Serves.served l c.join_all.result c.join_all.new.servers.items)
    (ap (λ l. reverse (map (λ w. w.lent.value) l)) whole ∙ ap reverse c.run-doors.ensures.lent ∙ ap (λ l. reverse (map (λ w. w.lent.value) l)) c.as_mut_slice.ensures.value
    ∙ sym c.in-Ok.ensures.lent.1)
    c.join_all.ensures.served

pub returns-in-Err-clause-served : goal.returns-in-Err-clause-served
returns-in-Err-clause-served g c =
    served_none g.L.Listener.are_sides g.S.Serves.served c.args.servers.now.items c.hire.new.servers.items c.args.tally.now (sym c.in-Err.ensures.kept) c.requires.none
