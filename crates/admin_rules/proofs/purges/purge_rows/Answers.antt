use Rattle.std.proofs.Common.{rules, ◌++◌}
use Rattle.admin_rules.specs.Purges.{changes_of}
use Rattle.admin_rules.proofs.Taken.{one_further}
use Rattle.admin_rules.proofs.purges.purge_rows.Goals as goal

pub loop-row-preserved : goal.loop-row-preserved
loop-row-preserved g c =
    let takes = g.P.Purge.takes c.args.gone.now in
    let makes = g.P.Purge.makes c.args.gone.now in
    one_further takes makes c.in-Some.row.now c.next.new.self c.loop-row.row-iterator c.loop-row.changes.items c.purge_row.new.changes.items (c.args.changes.now.items ++ changes_of takes makes c.into_iter-row-iterator.result) (search rules) c.in_ok-purge_row.ensures c.loop-row.invariant
