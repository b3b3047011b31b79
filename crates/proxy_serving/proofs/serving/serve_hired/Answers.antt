use Rattle.std.proofs.Common.{rules, ◌≡◌, ◌≤◌, inl, inr, length, ◌∙◌, subst, sym}
use Rattle.std.specs.Vec.{vec_capacity}
use Rattle.worker_hall.proofs.ShiftLemmas.{served_long}
use Rattle.proxy_serving.specs.Workers.{split_from}
use Rattle.proxy_serving.proofs.WorkerLemmas.{kits_back}
use denote.Param.Send.{IsSend, param_send}
use mir.Syntax.{static}
use Rattle.proxy_serving.proofs.Sent.{router_send}
use Rattle.proxy_serving.proofs.serving.serve_hired.Lts.{arg-3-1}
use Rattle.proxy_serving.proofs.serving.serve_hired.Goals as goal

pub serve_routes-end-requires-send-R : goal.serve_routes-end-requires-send-R
serve_routes-end-requires-send-R g c κs within =
    let waits = c.type_bounds.sync-W in
    let sent : IsSend (arg-3-1 g.row.L g.row.U g.row.C g.row.W g.row.L-In g.row.L-Out g.row.U-Reads g.row.U-Writes g.L.laws g.U.laws g.C.laws g.W.laws g.L.In.laws g.L.Out.laws g.U.Reads.laws g.U.Writes.laws g.L.Listener-dict g.L.In.Source-dict g.L.Out.Shuts-dict g.L.Out.Sink-dict g.U.Carrier-dict g.U.Tunnelled-dict g.U.Upstream-dict g.U.Reads.Source-dict g.U.Writes.Shuts-dict g.U.Writes.Sink-dict g.C.Clock-dict g.W.Threads-dict g.W.Wait-dict g.U.Destruct-dict g.C.Destruct-dict g.L.In.Destruct-dict g.L.Out.Destruct-dict g.U.Reads.Destruct-dict g.U.Writes.Destruct-dict κs) =
    (let router = router_send (record { mir = static; lft = _ }) _ waits in record { owned = router.owned; leaving = router.leaving }) in
    param_send _ _ sent

pub dismiss-requires-clause-room : goal.dismiss-requires-clause-room
dismiss-requires-clause-room g c =
    let fits : length c.args.clocks.now.items ≤ vec_capacity c.args.clocks.now = search rules in
    let long = served_long _ _ _ _ _ c.serve_routes-end.ensures.by_servers ∙ c.in-Ok.ensures.one_each in
    subst (λ n. n ≤ vec_capacity c.hire_servers.new.clocks) (sym long) (subst (λ n. length c.args.clocks.now.items ≤ n) (sym c.hire_servers.ensures.room) fits)

pub returns-clause-served : goal.returns-clause-served
returns-clause-served g c =
    let served = c.serve_routes-end in
    inr (
      served.ensures.by_forwarders,
      kits_back _ (λ s. (s.routes.pass ≡ split_from c.args.pass) × (s.secret.now ≡ c.args.secret.now)) (λ s. s.clock) c.args.clocks.now.items
          c.dismiss.new.kits.items c.in-Ok.servers.items served.new.servers.items served.result.answered c.in-Ok.ensures.begin c.in-Ok.ensures.hired.1
          served.ensures.by_servers c.dismiss.ensures.back,
    )

pub returns-in-Err-clause-served : goal.returns-in-Err-clause-served
returns-in-Err-clause-served g c = inl (search rules, search rules, search rules, c.in-Err.ensures.kept)
