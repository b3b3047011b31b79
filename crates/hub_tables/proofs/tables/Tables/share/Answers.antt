use Rattle.hub_rows.specs.declared.records.Share.{Share}
use Rattle.hub_tables.specs.Kept.{Shares}
use Rattle.hub_tables.proofs.Kept.{found}
use Rattle.hub_tables.proofs.tables.Tables.share.Goals as goal

pub returns-clause-own : goal.returns-clause-own
returns-clause-own c = found (λ (row : Share). row.key) (record { server = c.args.server.now; to = c.args.to.now }) c.row_at.result _ c.row_at.ensures ((c.self.invariant Shares).own (record { server = c.args.server.now; to = c.args.to.now }))
