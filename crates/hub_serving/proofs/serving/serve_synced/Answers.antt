use Rattle.std.proofs.Common.{arith, rules, ◌≡◌, ◌∙◌, option_copied, refl}
use Rattle.hub_run.specs.Turns.{View}
use Rattle.hub_serving.specs.Hall.{Hall, hall, view_in}
use Rattle.hub_serving.proofs.Ready.{by_synced, in_step, unsynced}
use Rattle.hub_serving.proofs.serving.serve_synced.Goals as goal

pub returns-then-is_wanting-clause-ends : goal.returns-then-is_wanting-clause-ends
returns-then-is_wanting-clause-ends g c = λ start base.
    let o = c.args.outside.now in
    let k = o.kit in
    let before : Hall =
    hall g.W.Out.Sink.held g.W.Out.Sink.faults g.W.Doors.Listener.given g.W.Doors.Listener.faults g.W.Time.Clock.to_come g.W.Draws.Random.left
    g.W.Starts.Spawner.calls g.W.Paths.RouteLink.calls g.W.Draws.Random.faults g.W.Starts.Spawner.faults g.W.Paths.RouteLink.faults
    g.W.Runs.Running.calls g.W.Runs.Running.faults o.output o.doors k o.kits.items o.services in
    let synced : View =
    record {
      pass = c.sync_routes-answer.new.pass;
      clock = g.W.Time.Clock.to_come k.clock;
      draws = g.W.Draws.Random.left k.random;
      spawner = g.W.Starts.Spawner.calls k.spawner;
      routes = g.W.Paths.RouteLink.calls c.sync_routes-answer.new.routes;
      faults = record {
        random = g.W.Draws.Random.faults k.random;
        spawner = g.W.Starts.Spawner.faults k.spawner;
        routes = g.W.Paths.RouteLink.faults c.sync_routes-answer.new.routes;
      };
    } in
    let s = c.sync_routes-answer.ensures in
    let asked : option_copied c.as_ref-hub.result ≡ c.args.plan.now.hub.hub_url = search rules in
    let syncs = in_step start c.args.plan.now.hub.hub_url (option_copied c.as_ref-hub.result) (view_in c.args.pass before) synced c.sync_routes-answer.result asked
    s.same s.comes s.mine s.failed (s.told start base) s.counted s.cause refl refl refl refl refl in
    unsynced _ _ _ _ start c.args.pass synced c.sync_routes-answer.result c.args.plan.now before _ c.close.result syncs
    (s.same.2 ∙ c.requires.alone) c.close.ensures.begins c.close.ensures.whole c.close.ensures.own c.close.ensures.base (s.same.1 ∙ base) c.into_parts-store.ensures.reached c.into_parts-store.ensures.rows

pub returns-clause-ends : goal.returns-clause-ends
returns-clause-ends g c = λ start base.
    let o = c.args.outside.now in
    let k = o.kit in
    let before : Hall =
    hall g.W.Out.Sink.held g.W.Out.Sink.faults g.W.Doors.Listener.given g.W.Doors.Listener.faults g.W.Time.Clock.to_come g.W.Draws.Random.left
    g.W.Starts.Spawner.calls g.W.Paths.RouteLink.calls g.W.Draws.Random.faults g.W.Starts.Spawner.faults g.W.Paths.RouteLink.faults
    g.W.Runs.Running.calls g.W.Runs.Running.faults o.output o.doors k o.kits.items o.services in
    let synced : View =
    record {
      pass = c.sync_routes-answer.new.pass;
      clock = g.W.Time.Clock.to_come k.clock;
      draws = g.W.Draws.Random.left k.random;
      spawner = g.W.Starts.Spawner.calls k.spawner;
      routes = g.W.Paths.RouteLink.calls c.sync_routes-answer.new.routes;
      faults = record {
        random = g.W.Draws.Random.faults k.random;
        spawner = g.W.Starts.Spawner.faults k.spawner;
        routes = g.W.Paths.RouteLink.faults c.sync_routes-answer.new.routes;
      };
    } in
    let s = c.sync_routes-answer.ensures in
    let asked : option_copied c.as_ref-hub.result ≡ c.args.plan.now.hub.hub_url = search rules in
    let syncs = in_step start c.args.plan.now.hub.hub_url (option_copied c.as_ref-hub.result) (view_in c.args.pass before) synced c.sync_routes-answer.result asked
    s.same s.comes s.mine s.failed (s.told start base) s.counted s.cause refl refl refl refl refl in
    by_synced _ _ _ _ start c.args.pass synced c.sync_routes-answer.result c.is_wanting.result c.args.plan.now before _ _ _ syncs c.is_wanting.ensures
    c.if-is_wanting.false (c.serve_ready.ensures.ends start (s.same.1 ∙ base))

pub returns-then-is_wanting-clause-counted : goal.returns-then-is_wanting-clause-counted
returns-then-is_wanting-clause-counted g c =
    let seen = c.sync_routes-answer.ensures.comes.1 in let closed = c.close.ensures.counted in let same = c.into_parts-store.ensures.faults in
    omega (arith, seen, closed, same)

pub returns-clause-counted : goal.returns-clause-counted
returns-clause-counted g c =
    let seen = c.sync_routes-answer.ensures.comes.1 in let served = c.serve_ready.ensures.counted in omega (arith, seen, served)
