use Rattle.std.proofs.Common.{sym, ap, ◌∙◌}
use Rattle.std.specs.Ordering.{is_lt}
use Rattle.keyed_rows.proofs.Walks.{risen, rises_on, stays}
use Rattle.keyed_rows.proofs.sorted.rises_from.Goals as goal

pub returns-then-not-is_lt : goal.returns-then-not-is_lt
returns-then-not-is_lt g c =
    stays g.K.Ord.cmp c.args.keys.now c.loop-key.key-index c.loop-key.last.now _ c.loop-key.invariant c.key-item.result c.loop-key-test.true c.key-item.is (ap is_lt (sym c.cmp.ensures) ∙ sym c.is_lt.ensures ∙ c.if-not-is_lt.true)

pub loop-key-preserved : goal.loop-key-preserved
loop-key-preserved g c =
    rises_on g.K.Ord.cmp c.args.keys.now c.loop-key.key-index c.loop-key.last.now _ c.loop-key.invariant c.key-item.result c.loop-key-test.true c.key-item.is (ap is_lt (sym c.cmp.ensures) ∙ sym c.is_lt.ensures ∙ c.if-not-is_lt.false)

pub returns : goal.returns
returns g c = risen g.K.Ord.cmp c.args.keys.now c.loop-key.key-index c.loop-key.last.now _ c.loop-key.invariant c.loop-key-test.false
