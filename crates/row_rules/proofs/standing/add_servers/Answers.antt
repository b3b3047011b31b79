use Rattle.std.proofs.Common.{◌∙◌}
use Rattle.hub_kit.specs.KeyOrder.{key_cmp}
use Rattle.keyed_rows.specs.Rows.{map_of}
use Rattle.row_rules.proofs.Marks.{servers_more}
use Rattle.row_rules.proofs.standing.add_servers.Goals as goal

pub loop-lease-preserved : goal.loop-lease-preserved
loop-lease-preserved g c = λ server.
    servers_more (map_of key_cmp c.loop-lease.leased) (map_of key_cmp c.insert_row.new.rows) c.in-Some.lease.now c.loop-lease.lease-iterator c.next.new.self c.in-Some.ensures.steps c.in_ok-insert_row.ensures.ok server
    ∙ c.loop-lease.invariant server
