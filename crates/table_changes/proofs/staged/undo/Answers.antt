use Rattle.std.proofs.Common.{reverse}
use Rattle.hub_tables.specs.Changes.{rows_done}
use Rattle.table_changes.proofs.WithWayBack.{last_free, free_then, back_then}
use Rattle.table_changes.proofs.staged.undo.Goals as goal

pub go_back-requires : goal.go_back-requires
go_back-requires c = last_free c.loop-back.log.items c.pop.new.self.items c.in-Some.back c.loop-back.tables c.in-Some.ensures.items c.loop-back.invariant.free

pub loop-back-preserved : goal.loop-back-preserved
loop-back-preserved c =
    let log = c.loop-back.log.items in
    let rest = c.pop.new.self.items in
    let before = c.loop-back.tables in
    let after = c.go_back.new.tables in record {
      free = free_then log rest c.in-Some.back before after c.in-Some.ensures.items c.go_back.ensures c.loop-back.invariant.free;
      back = back_then log rest c.in-Some.back before after c.in-Some.ensures.items c.go_back.ensures (rows_done (reverse c.args.log.items) c.args.tables.now) c.loop-back.invariant.back;
    }
