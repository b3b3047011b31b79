use Rattle.std.proofs.Common.{sym}
use Rattle.std.specs.BTreeMap as tree
use Rattle.scope_filters.proofs.FilterRows.{added_again, added_behind, alone_in_order, order_kept, order_behind, order_before}
use Rattle.scope_filters.proofs.grant.insert_filter.Goals as goal

pub returns-in_default-clause-order : goal.returns-in_default-clause-order
returns-in_default-clause-order c = alone_in_order c.args.first.now (tree.keys c.args.others.now) c.args.filter c.in_default.is c.requires

pub returns-in_err-insert_row-in-Less-clause-order : goal.returns-in_err-insert_row-in-Less-clause-order
returns-in_err-insert_row-in-Less-clause-order c =
    order_kept c.args.first.now c.args.others.now c.insert_row-in-Less.new.rows c.requires c.in_err-insert_row-in-Less.ensures.err c.insert_row-in-Less.ensures.ordered

pub returns-in-Equal-clause-ok : goal.returns-in-Equal-clause-ok
returns-in-Equal-clause-ok c = added_again c.args.first.now c.args.others.now c.args.filter c.in-Some.least c.in-Some.is (sym c.in-Equal.ensures)

pub returns-in-Greater-clause-ok : goal.returns-in-Greater-clause-ok
returns-in-Greater-clause-ok c =
    added_behind c.args.first.now c.args.others.now c.insert_row.new.rows c.args.filter c.in-Some.least c.insert_row.result c.in-Some.is c.insert_row.ensures.ok

pub returns-in-Greater-clause-order : goal.returns-in-Greater-clause-order
returns-in-Greater-clause-order c =
    order_behind c.args.first.now c.args.others.now c.insert_row.new.rows c.args.filter c.in-Some.least c.insert_row.result c.in-Some.is (sym c.in-Greater.ensures)
    c.insert_row.ensures.ok c.insert_row.ensures.err c.insert_row.ensures.ordered c.requires

pub returns-in_ok-insert_row-in-Less-clause-order : goal.returns-in_ok-insert_row-in-Less-clause-order
returns-in_ok-insert_row-in-Less-clause-order c =
    order_before c.args.first.now c.args.others.now c.insert_row-in-Less.new.rows c.args.filter c.in-Some.least c.in-Some.is (sym c.in-Less.ensures)
    c.in_ok-insert_row-in-Less.ensures.ok c.insert_row-in-Less.ensures.ordered c.requires
