use Rattle.std.proofs.Common.{◌≡◌, ap, ◌∙◌, arith, drop}
use Rattle.hub_devices.specs.Routes.{route_of}
use Rattle.hub_devices.proofs.RouteLemmas.{get_before}
use Rattle.hub_devices.proofs.listing.by_path.Goals as goal

pub loop-at-preserved-in_ok-insert : goal.loop-at-preserved-in_ok-insert
loop-at-preserved-in_ok-insert c =
    get_before c.loop-at.table c.insert.new.self c.args.routes.now c.loop-at.at c.index-routes-at.result c.in_ok-path.path
    c.in_ok-target.target c.loop-at-test.true c.loop-at.invariant.0 c.index-routes-at.is c.in_ok-insert.ensures.updates c.in_ok-path.ensures
    c.in_ok-target.ensures c.loop-at.invariant.1

pub loop-at-preserved : goal.loop-at-preserved
loop-at-preserved c =
    get_before c.loop-at.table c.insert.new.self c.args.routes.now c.loop-at.at c.index-routes-at.result c.in_ok-path.path
    c.in_ok-target.target c.loop-at-test.true c.loop-at.invariant.0 c.index-routes-at.is c.in_ok-insert.ensures.updates c.in_ok-path.ensures
    c.in_ok-target.ensures c.loop-at.invariant.1

pub returns : goal.returns
returns c =
    let begun : c.loop-at.at ≡ 0 = omega arith in
    λ path. c.loop-at.invariant.1 path ∙ ap (λ at. route_of (drop at c.args.routes.now) path) begun
