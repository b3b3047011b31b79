use Rattle.std.proofs.Common.{◌∙◌, ap}
use Rattle.std.specs.FinMap as map
use Rattle.scope_filters.proofs.GrantRows.{added, not_added, added_first}
use Rattle.scope_filters.proofs.grant.add_filter.Goals as goal

pub returns-in-Some-clause-ok : goal.returns-in-Some-clause-ok
returns-in-Some-clause-ok c =
    added c.args.rows.now (c.get_mut.follows.lender c.insert.new.self) c.args.action c.args.filter c.in-Some.filters.now _ (c.get_mut.follows.holds c.insert.new.self) c.in-Some.ensures.value c.insert.result
    c.insert.ensures.ok

pub returns-in-Some-clause-err : goal.returns-in-Some-clause-err
returns-in-Some-clause-err c =
    not_added c.args.rows.now (c.get_mut.follows.lender c.insert.new.self) c.args.action c.args.filter c.in-Some.filters.now _ (c.get_mut.follows.holds c.insert.new.self) c.in-Some.ensures.value c.insert.result
    c.insert.ensures.err

pub returns-clause-ok : goal.returns-clause-ok
returns-clause-ok c =
    added_first c.args.rows.now c.get_mut.follows.lender-at-none c.insert_row.new.rows c.args.action c.args.filter _ c.insert_row.result c.get_mut.follows.holds-at-none c.in-None.ensures.value
    (c.in_ok-insert.ensures.ok ∙ ap (λ s. map.insert s c.args.filter tt) c.new-filters.ensures) c.insert_row.ensures.ok
