use Rattle.std.proofs.Common.{rules}
use Rattle.proxy_link.specs.Readings.{each_route}
use Rattle.proxy_link.proofs.Fronts.{pushed_if}
use Rattle.proxy_link.proofs.readings.read_into.Goals as goal

pub loop-path-preserved : goal.loop-path-preserved
loop-path-preserved c =
    let step = pushed_if c.loop-path.routes _ (each_route (Rattle.serde_json.specs.View.members_view c.next.new.self)) c.push_route.new.routes c.in_ok-push_route.field-0 c.in_ok-push_route.ensures c.if-not-branch.false in
    search rules
