use Rattle.std.proofs.Common.{◌∙◌, Some, None, sym}
use Rattle.hub_main.proofs.Unknown.{from_the_row}
use Rattle.hub_main.proofs.known_names.unknown_in.Goals as goal

pub returns-in-Some : goal.returns-in-Some
returns-in-Some g c =
    sym (from_the_row c.args.known.now g.T.Naming.names c.args.rows.now c.loop-row.row-index c.row-item.result c.loop-row-test.true (Some c.in-Some.name)
    (sym c.in-Some.is ∙ c.unknown.ensures) c.row-item.is) ∙ c.loop-row.invariant

pub loop-row-preserved : goal.loop-row-preserved
loop-row-preserved g c =
    sym (from_the_row c.args.known.now g.T.Naming.names c.args.rows.now c.loop-row.row-index c.row-item.result c.loop-row-test.true None
    (sym c.in_default.is ∙ c.unknown.ensures) c.row-item.is) ∙ c.loop-row.invariant
