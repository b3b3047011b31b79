use Rattle.hub_rows.specs.declared.records.OAuthClient.{OAuthClient}
use Rattle.hub_tables.specs.Kept.{Clients}
use Rattle.hub_tables.proofs.Kept.{found}
use Rattle.hub_tables.proofs.tables.Tables.client.Goals as goal

pub returns-clause-own : goal.returns-clause-own
returns-clause-own c = found (λ (row : OAuthClient). row.id) c.args.key.now c.row_at.result _ c.row_at.ensures (c.self.invariant Clients c.args.key.now)
