use Rattle.hub_rows.specs.declared.records.OAuthCode.{OAuthCode}
use Rattle.hub_tables.specs.Kept.{GrantCodes}
use Rattle.hub_tables.proofs.Kept.{found}
use Rattle.hub_tables.proofs.tables.Tables.grant_code.Goals as goal

pub returns-clause-own : goal.returns-clause-own
returns-clause-own c = found (λ (row : OAuthCode). row.hash) c.args.key.now c.row_at.result _ c.row_at.ensures (c.self.invariant GrantCodes c.args.key.now)
