use Rattle.std.proofs.Common.{◌∙◌, ap, Some, None, cond, arith}
use Rattle.std.specs.Ordering.{eq_by_cmp}
use Rattle.server_life.proofs.Ranks.{got, got_none}
use Rattle.server_life.proofs.ordered.get.Goals as goal

pub returns-then-at-entries : goal.returns-then-at-entries
returns-then-at-entries g c =
    c.value_at.ensures
    ∙ (ap (λ (e : g.row.K.Denot × g.row.V.Denot). cond (eq_by_cmp g.K.Ord.cmp c.args.key.now e.0) (Some e.1) None) c.index-entries-at.is
    ∙ got g.K.Ord.cmp g.met.K.Ord.total c.args.key.now c.args.entries.now c.rank-at.result c.index-entries-at.result c.requires c.rank-at.ensures c.if-at-entries.true)

pub returns-else-at-entries : goal.returns-else-at-entries
returns-else-at-entries g c = got_none g.K.Ord.cmp g.met.K.Ord.total c.args.key.now c.args.entries.now c.rank-at.result c.requires c.rank-at.ensures (omega arith)
