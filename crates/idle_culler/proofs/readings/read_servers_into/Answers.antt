use Rattle.std.proofs.Common.{rules}
use Rattle.idle_culler.specs.Readings.{each_server}
use Rattle.idle_culler.proofs.Fronts.{pushed_if}
use Rattle.idle_culler.proofs.readings.read_servers_into.Goals as goal

pub loop-name-preserved : goal.loop-name-preserved
loop-name-preserved c =
    let step = pushed_if c.loop-name.list _ (each_server (Rattle.serde_json.specs.View.members_view c.next.new.self)) c.push_server.new.list c.in_ok-push_server.field-0 c.in_ok-push_server.ensures c.if-not-branch.false in
    search rules
