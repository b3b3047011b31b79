use Rattle.std.proofs.Common.{◌≡◌, refl, subst, sym, ◌∙◌}
use denote.Param.Send.{IsSend, param_send}
use Rattle.hub_core.specs.Visits.{entries_of}
use Rattle.hub_run.specs.Connections.{sink_told, source_told}
use Rattle.hub_serve.specs.Shifts.{AreOf, kit_after, kit_before, shifts_of, split_from}
use Rattle.hub_serve.specs.contracts.serving.serve.{K-row, T-row}
use Rattle.hub_serve.proofs.serving.serve.Lts.{arg-6-1}
use Rattle.hub_serve.proofs.SentBook.{book_send}
use Rattle.hub_serve.proofs.SessionLemmas.{are_served, are_on_sides, none_served, none_on_sides}
use Rattle.hub_serve.proofs.serving.serve.Goals as goal

-- the book as the call has it differs from the type itself in how it lies in memory alone
pub serve_as-served-requires-send-B : goal.serve_as-served-requires-send-B
serve_as-served-requires-send-B g c κs within =
    let b = c.type_bounds in
    let book = book_send (K-row g.row.K g.row.T g.row.L g.row.S g.row.P g.row.C g.row.R g.row.W g.row.L-In g.row.L-Out) (T-row g.row.K g.row.T g.row.L g.row.S g.row.P g.row.C g.row.R g.row.W g.row.L-In g.row.L-Out) g.K.Keeper g.T.Trail b.send-K b.send-T in
    let sent : IsSend (arg-6-1 g.row.K g.row.T g.row.L g.row.S g.row.P g.row.C g.row.R g.row.W g.row.L-In g.row.L-Out g.K.laws g.T.laws g.L.laws g.S.laws g.P.laws g.C.laws g.R.laws g.W.laws g.L.In.laws g.L.Out.laws g.K.Keeper g.K.Keeper-dict g.T.Trail g.T.Trail-dict g.L.Listener g.L.Listener-dict g.L.In.Source g.L.In.Source-dict g.L.Out.Sink g.L.Out.Sink-dict g.S.Spawner g.S.Spawner-dict g.P.RouteLink g.P.RouteLink-dict g.C.Clock g.C.Clock-dict g.R.Random g.R.Random-dict g.W.Threads g.W.Threads-dict g.W.Wait g.W.Wait-dict g.K.Destruct-dict g.T.Destruct-dict g.L.In.Destruct-dict g.L.Out.Destruct-dict κs) = record { owned = book.owned; leaving = book.leaving } in
    param_send _ _ sent

pub returns-then-connections-eq0-clause-served : goal.returns-then-connections-eq0-clause-served
returns-then-connections-eq0-clause-served g c =
    none_served g.C.Clock.to_come g.R.Random.left g.S.Spawner.calls g.P.RouteLink.calls g.R.Random.faults g.S.Spawner.faults g.P.RouteLink.faults g.L.Listener.are_sides (source_told g.L.In.Source) (sink_told g.L.Out.Sink)
    c.close.result.start c.args.pass (entries_of c.close.result) c.new-tally.result.count c.new-tally.result c.close.ensures.base c.new-tally.ensures.1
    c.new-tally.ensures.0 (c.close.ensures.whole c.requires.alone) (c.close.ensures.own c.requires.alone)

pub returns-then-connections-eq0-clause-sides : goal.returns-then-connections-eq0-clause-sides
returns-then-connections-eq0-clause-sides g c =
    none_on_sides g.C.Clock.to_come g.R.Random.left g.S.Spawner.calls g.P.RouteLink.calls g.R.Random.faults g.S.Spawner.faults g.P.RouteLink.faults g.L.Listener.are_sides (source_told g.L.In.Source) (sink_told g.L.Out.Sink)
    (shifts_of c.new-tally.result) c.new-tally.ensures.1

pub returns-clause-served : goal.returns-clause-served
returns-clause-served g c =
    let served = c.serve_as-served in
    are_served g.C.Clock.to_come g.R.Random.left g.S.Spawner.calls g.P.RouteLink.calls g.R.Random.faults g.S.Spawner.faults g.P.RouteLink.faults g.L.Listener.are_sides (source_told g.L.In.Source) (sink_told g.L.Out.Sink)
    c.close-2.result.start c.args.pass served.new.pass (entries_of c.close-2.result) served.new.tally.count served.new.tally
    (sym served.ensures.pass.1 ∙ c.close-2.ensures.base) served.ensures.shifts served.ensures.mine served.ensures.total
    (c.close-2.ensures.whole served.ensures.alone) (c.close-2.ensures.own served.ensures.alone)

pub returns-clause-sides : goal.returns-clause-sides
returns-clause-sides g c =
    are_on_sides g.C.Clock.to_come g.R.Random.left g.S.Spawner.calls g.P.RouteLink.calls g.R.Random.faults g.S.Spawner.faults g.P.RouteLink.faults g.L.Listener.are_sides (source_told g.L.In.Source) (sink_told g.L.Out.Sink)
    (split_from c.args.pass) (shifts_of c.serve_as-served.new.tally) c.serve_as-served.ensures.shifts

pub returns-then-connections-eq0-clause-kits : goal.returns-then-connections-eq0-clause-kits
returns-then-connections-eq0-clause-kits g c =
    subst (λ xss. AreOf kit_before kit_after c.args.kits.now.items xss c.args.kits.now.items) (sym c.new-tally.ensures.1) refl
